-- The operators that test two versions.
use Rattle.std.specs.Prelude.{Bool, Option, Some, None, codes, if◌then◌else◌}
use Rattle.std.specs.Ordering.{is_eq, is_ne, is_gt, is_ge, is_lt, is_le}
use Rattle.std.specs.Str.{bytes_eq}
use Rattle.std.specs.declared.cmp.Ordering.{Ordering}
use Rattle.eb_bytes.specs.Text.{Text}
use Rattle.version_funcs.specs.declared.operator.Operator.{Operator}
use Rattle.version_funcs.specs.declared.operator.Operator.TheVariants as operator

-- the operator that has this name
abbrev pub operator_named : Text → Option Operator
operator_named name =
    if bytes_eq name (codes "-eq") then Some operator.Equal
    else (if bytes_eq name (codes "-ne") then Some operator.NotEqual
    else (if bytes_eq name (codes "-gt") then Some operator.Greater
    else (if bytes_eq name (codes "-ge") then Some operator.NotLess
    else (if bytes_eq name (codes "-lt") then Some operator.Less
    else (if bytes_eq name (codes "-le") then Some operator.NotGreater
    else None)))))

-- whether versions that compare so pass the test
abbrev pub holds : Operator → Ordering → Bool
holds operator.Equal order = is_eq order
holds operator.NotEqual order = is_ne order
holds operator.Greater order = is_gt order
holds operator.NotLess order = is_ge order
holds operator.Less order = is_lt order
holds operator.NotGreater order = is_le order
