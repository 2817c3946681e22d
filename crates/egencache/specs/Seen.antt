-- A line as the code reads it, as what it is.
use Rattle.std.specs.Prelude.{ℕ, Bool}
use Rattle.egencache.specs.declared.assignments.Assignment.{Assignment}
use Rattle.egencache.specs.Assignments.{Assigned}
use Rattle.egencache.specs.declared.plain.Line.{Line}
use Rattle.egencache.specs.declared.plain.Line.TheVariants as line
use Rattle.egencache.specs.declared.plain.Class.{Class}
use Rattle.egencache.specs.declared.plain.Class.TheVariants as class
use Rattle.byte_class.specs.Class.{is_blank, is_name_byte}
use Rattle.egencache.specs.Plain.{PlainLine, Nothing, Assigns, Other, is_bare, is_quotable}

abbrev pub seen : Line → PlainLine
seen line.Nothing = Nothing
seen (line.Assigns name value) = Assigns name.now value.now
seen line.Other = Other

-- the bytes of a class
abbrev pub in_class : Class → ℕ → Bool
in_class class.Blank b = is_blank b
in_class class.NameByte b = is_name_byte b
in_class class.Bare b = is_bare b
in_class class.Quotable b = is_quotable b

abbrev pub assigned : Assignment → Assigned
assigned a = record { name = a.name.now; value = a.value.now }
