-- Names, paths and their texts as they compute.
use Rattle.std.proofs.Common.{◌≡◌, true, false, [], ◌∷◌, Some, None, refl}
use Rattle.std.specs.Prelude.{codes}
use Rattle.version_funcs.specs.declared.kind.SuffixKind.TheVariants.{Patch}
use Rattle.version_funcs.specs.Version.{Version}
use Rattle.ebuild_names.specs.Form.{is_category_name, is_flag_name}
use Rattle.ebuild_names.specs.Path.{file_of, names_of}
use Rattle.ebuild_names.specs.Walk.{ends_in_version, is_package_text, texts_of}

category_letters : is_category_name (codes "sys-libs") ≡ true
category_letters = refl

category_underscore : is_category_name (codes "_.+-") ≡ true
category_underscore = refl

category_hyphen : is_category_name (codes "-c") ≡ false
category_hyphen = refl

category_none : is_category_name [] ≡ false
category_none = refl

flag_digit : is_flag_name (codes "9x+_@-") ≡ true
flag_digit = refl

flag_underscore : is_flag_name (codes "_x") ≡ false
flag_underscore = refl

package_version : is_package_text (codes "a-1") ≡ false
package_version = refl

package_revision : is_package_text (codes "a-1-r2") ≡ false
package_revision = refl

package_letters : is_package_text (codes "font-adobe-100dpi") ≡ true
package_letters = refl

no_revision_alone : ends_in_version (codes "a-r2") ≡ false
no_revision_alone = refl

abbrev first_r0 : Version
first_r0 = record { first = codes "1"; later = []; letter = None; suffixes = []; revision = Some (codes "0") }

file_r0 : file_of (codes "b") first_r0 ≡ codes "b-1-r0.ebuild"
file_r0 = refl

names_r0 : names_of (codes "c") (codes "b") first_r0 ≡ record {
  category = codes "c";
  pn = codes "b";
  pv = codes "1";
  pr = codes "r0";
  p = codes "b-1";
  pvr = codes "1-r0";
  pf = codes "b-1-r0";
}
names_r0 = refl

abbrev long : Version
long = record {
  first = codes "2";
  later = codes "07" ∷ [];
  letter = Some 98;
  suffixes = record { kind = Patch; number = codes "3" } ∷ [];
  revision = None;
}

names_long : names_of (codes "c") (codes "a-b") long ≡ record {
  category = codes "c";
  pn = codes "a-b";
  pv = codes "2.07b_p3";
  pr = codes "r0";
  p = codes "a-b-2.07b_p3";
  pvr = codes "2.07b_p3";
  pf = codes "a-b-2.07b_p3";
}
names_long = refl

texts_long : texts_of (codes "c") (codes "a-b") (codes "2.07b_p3") ≡ names_of (codes "c") (codes "a-b") long
texts_long = refl
