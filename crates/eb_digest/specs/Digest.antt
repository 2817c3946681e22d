-- A digest's bytes, and the text that writes them.
use Rattle.std.specs.Prelude.{◌≡◌, ℕ, Bool, length, nat_le, ◌&&◌, ◌||◌}
use Rattle.std.specs.List.{AllPass}
use Rattle.byte_class.specs.Class.{is_digit}
use Rattle.eb_bytes.specs.Text.{Text}
use Rattle.hex.specs.Hex.{IsBytes, encode_lower}

-- sixteen bytes, each below 256
pub record IsDigest (digest : Text) : Type 0 where
  pub sixteen : length digest ≡ 16
  pub bytes : IsBytes digest

-- the 32 lower-case hexadecimal digits of a digest
abbrev pub digest_text : Text → Text
digest_text digest = encode_lower digest

-- a lower-case hexadecimal digit: 0 to 9, or a to f, which are 97 to 102
abbrev pub is_lower_digit : ℕ → Bool
is_lower_digit c = is_digit c || (nat_le 97 c && nat_le c 102)

-- 32 lower-case hexadecimal digits
pub record IsDigestText (text : Text) : Type 0 where
  pub length_32 : length text ≡ 32
  pub lower : AllPass is_lower_digit text
