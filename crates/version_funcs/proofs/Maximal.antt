-- The components of a text are its maximal runs.
use Rattle.std.proofs.Common.{◌≡◌, ℕ, ◌&&◌, ◌||◌, not, Bool, true, false, List, [], ◌∷◌, ◌++◌, refl, ap, ◌∙◌}
use Rattle.std.specs.List.{list_all}
use Rattle.std.proofs.lemmas.Bool.{and_from, and_parts, false_from_ne_true}
use Rattle.eb_bytes.specs.Text.{Text, has_bytes}
use Rattle.version_funcs.specs.Maximal.{are_maximal, is_apart, is_component}
use Rattle.byte_class.specs.Class.{is_digit, is_letter}
use Rattle.version_funcs.specs.Byte.{is_separator}
use Rattle.version_funcs.specs.Pieces.{Piece, are_alike, led_by, pieces}
use Rattle.version_funcs.proofs.Runs.{list_all-take_while}
use Rattle.version_funcs.proofs.Splits.{first-separators, kinds_apart, rest-led, rest-separator}

-- what kind a byte of a component is
record IsKind (digit letter : Bool) (b : ℕ) : Type 0 where
  is_digit_so : is_digit b ≡ digit
  is_letter_so : is_letter b ≡ letter

data Kind (b : ℕ) : Type 0 where
  Digit : IsKind true false b → Kind b
  Letter : IsKind false true b → Kind b
  Other : IsKind false false b → Kind b

kind : (b : ℕ) → Kind b
kind b = on (is_digit b) refl (is_letter b) refl
  where
    on : (d : Bool) → is_digit b ≡ d → (l : Bool) → is_letter b ≡ l → Kind b
    on true d l e = Digit (record { is_digit_so = d; is_letter_so = false_from_ne_true (is_letter b) (λ both. kinds_apart b d both) })
    on false d true l = Letter (record { is_digit_so = d; is_letter_so = l })
    on false d false l = Other (record { is_digit_so = d; is_letter_so = l })

-- one byte is a component
alone : (b : ℕ) → is_separator b ≡ false → is_component (b ∷ []) ≡ true
alone b within = on (kind b)
  where
    on : Kind b → is_component (b ∷ []) ≡ true
    on (Digit k) = rw (k.is_digit_so) refl
    on (Letter k) = rw (k.is_digit_so, k.is_letter_so) refl
    on (Other k) = absurd (let never : true ≡ false = rw (k.is_digit_so, k.is_letter_so) at within in cc)

-- a byte in front of one of its kind changes nothing
goes_on-component : (b c : ℕ) (t : Text) → are_alike b c ≡ true → is_component (b ∷ c ∷ t) ≡ is_component (c ∷ t)
goes_on-component b c t alike = on (kind b) (kind c)
  where
    on : Kind b → Kind c → is_component (b ∷ c ∷ t) ≡ is_component (c ∷ t)
    on (Digit k) (Digit m) = rw (k.is_digit_so, k.is_letter_so, m.is_digit_so, m.is_letter_so) refl
    on (Digit k) (Letter m) = absurd (let never : false ≡ true = rw (k.is_digit_so, k.is_letter_so, m.is_digit_so) at alike in cc)
    on (Digit k) (Other m) = absurd (let never : false ≡ true = rw (k.is_digit_so, k.is_letter_so, m.is_digit_so) at alike in cc)
    on (Letter k) (Letter m) = rw (k.is_digit_so, k.is_letter_so, m.is_digit_so, m.is_letter_so) refl
    on (Letter k) (Digit m) = absurd (let never : false ≡ true = rw (k.is_digit_so, k.is_letter_so, m.is_letter_so) at alike in cc)
    on (Letter k) (Other m) = absurd (let never : false ≡ true = rw (k.is_digit_so, k.is_letter_so, m.is_letter_so) at alike in cc)
    on (Other k) m = absurd (let never : false ≡ true = rw (k.is_digit_so, k.is_letter_so) at alike in cc)

-- and before one of another kind it makes no component
apart-component : (b c : ℕ) (t : Text) → are_alike b c ≡ false → is_component (b ∷ c ∷ t) ≡ false
apart-component b c t apart = on (kind b) (kind c)
  where
    on : Kind b → Kind c → is_component (b ∷ c ∷ t) ≡ false
    on (Digit k) (Digit m) = absurd (let never : true ≡ false = rw (k.is_digit_so, m.is_digit_so) at apart in cc)
    on (Digit k) (Letter m) = rw (k.is_digit_so, k.is_letter_so, m.is_digit_so) refl
    on (Digit k) (Other m) = rw (k.is_digit_so, k.is_letter_so, m.is_digit_so) refl
    on (Letter k) (Letter m) = absurd (let never : true ≡ false = rw (k.is_digit_so, k.is_letter_so, m.is_letter_so) at apart in cc)
    on (Letter k) (Digit m) = rw (k.is_digit_so, k.is_letter_so, m.is_letter_so) refl
    on (Letter k) (Other m) = rw (k.is_digit_so, k.is_letter_so, m.is_letter_so) refl
    on (Other k) m = rw (k.is_digit_so, k.is_letter_so) refl

-- a list of maximal pieces with one more in front
more-maximal : (piece : Piece) (more : List Piece) → is_component piece.component ≡ true → list_all is_separator piece.separator ≡ true → is_apart piece more ≡ true → are_maximal more ≡ true → are_maximal (piece ∷ more) ≡ true
more-maximal piece more c s a m =
    and_from (is_component piece.component) (list_all is_separator piece.separator && (is_apart piece more && are_maximal more)) c (and_from (list_all is_separator piece.separator) (is_apart piece more && are_maximal more) s (and_from (is_apart piece more) (are_maximal more) a m))

record Parted (piece : Piece) (more : List Piece) : Type 0 where
  component : is_component piece.component ≡ true
  separator : list_all is_separator piece.separator ≡ true
  apart : is_apart piece more ≡ true
  rest : are_maximal more ≡ true

parted : (piece : Piece) (more : List Piece) → are_maximal (piece ∷ more) ≡ true → Parted piece more
parted piece more h =
    let first = and_parts (is_component piece.component) (list_all is_separator piece.separator && (is_apart piece more && are_maximal more)) h in
    let second = and_parts (list_all is_separator piece.separator) (is_apart piece more && are_maximal more) first.1 in
    let third = and_parts (is_apart piece more) (are_maximal more) second.1 in
    record { component = first.0; separator = second.0; apart = third.0; rest = third.1 }

longer-apart : (b c : ℕ) (t separator : Text) (more : List Piece) → are_alike b c ≡ true → is_apart (record { component = c ∷ t; separator = separator }) more ≡ true → is_apart (record { component = b ∷ c ∷ t; separator = separator }) more ≡ true
longer-apart b c t separator [] alike apart = refl
longer-apart b c t separator (next ∷ more) alike apart =
    ap (λ (v : Bool). has_bytes separator || not v) (goes_on-component b c (t ++ next.component) alike) ∙ apart

-- a byte of a component in front of maximal pieces
led-touching : (b : ℕ) (component separator : Text) (more : List Piece) → is_separator b ≡ false → Parted (record { component = component; separator = separator }) more → are_maximal (led_by b [] (record { component = component; separator = separator } ∷ more)) ≡ true
led-touching b [] separator more within p = absurd (let never : false ≡ true = p.component in cc)
led-touching b (c ∷ t) separator more within p = on (are_alike b c) refl
  where
    next : Piece
    next = record { component = c ∷ t; separator = separator }

    single : Piece
    single = record { component = b ∷ []; separator = [] }

    on : (v : Bool) → are_alike b c ≡ v → are_maximal (led_by b [] (record { component = c ∷ t; separator = separator } ∷ more)) ≡ true
    on true e = rw e (more-maximal (record { component = b ∷ c ∷ t; separator = separator }) more (goes_on-component b c t e ∙ p.component) p.separator (longer-apart b c t separator more e p.apart) p.rest)
    on false e = rw e (more-maximal (record { component = b ∷ []; separator = [] }) (record { component = c ∷ t; separator = separator } ∷ more) (alone b within) refl (ap not (apart-component b c t e)) (more-maximal (record { component = c ∷ t; separator = separator }) more p.component p.separator p.apart p.rest))

apart-separated : (b c : ℕ) (s : Text) (ps : List Piece) → is_apart (record { component = b ∷ []; separator = c ∷ s }) ps ≡ true
apart-separated b c s [] = refl
apart-separated b c s (p ∷ ps) = refl

led_by-maximal : (b : ℕ) (s : Text) (ps : List Piece) → is_separator b ≡ false → list_all is_separator s ≡ true → are_maximal ps ≡ true → are_maximal (led_by b s ps) ≡ true
led_by-maximal b [] [] within all so_far = more-maximal (record { component = b ∷ []; separator = [] }) [] (alone b within) refl refl refl
led_by-maximal b (c ∷ s) ps within all so_far = more-maximal (record { component = b ∷ []; separator = c ∷ s }) ps (alone b within) all (apart-separated b c s ps) so_far
led_by-maximal b [] (p ∷ ps) within all so_far = led-touching b p.component p.separator ps within (parted p ps so_far)

pub maximal-pieces : (t : Text) → are_maximal (pieces t).rest ≡ true
maximal-pieces [] = refl
maximal-pieces (b ∷ t) = on (is_separator b) refl (maximal-pieces t)
  where
    on : (v : Bool) → is_separator b ≡ v → are_maximal (pieces t).rest ≡ true → are_maximal (pieces (b ∷ t)).rest ≡ true
    on true e rest = ap are_maximal (rest-separator b t e) ∙ rest
    on false e rest = ap are_maximal (rest-led b t e) ∙ led_by-maximal b (pieces t).first (pieces t).rest e (ap (list_all is_separator) (first-separators t) ∙ list_all-take_while is_separator t) rest

pub separator-first : (t : Text) → list_all is_separator (pieces t).first ≡ true
separator-first t = ap (list_all is_separator) (first-separators t) ∙ list_all-take_while is_separator t
