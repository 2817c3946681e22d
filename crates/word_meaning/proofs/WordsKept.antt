-- Whole words and lists of words: what is respected holds of them, where it holds of two ways to run substitutions.
use Rattle.std.proofs.Common.{List, [], ◌∷◌, length}
use Rattle.std.specs.Prelude.{◌&&◌, not, nat_le}
use Rattle.bash_braces.specs.Braces.{braces}
use Rattle.bash_cond.specs.Arithmetic.{evaluates}
use Rattle.bash_patterns.specs.Symbols.{symbols_of}
use Rattle.eb_bytes.specs.Text.{Text}
use Rattle.eb_syntax.specs.Tree.{ArithText, HereText, Sub}
use Rattle.eb_syntax.specs.declared.parts.HereTextOf.TheVariants as here
use Rattle.eb_syntax.specs.declared.tree.Items.{Items}
use Rattle.eb_syntax.specs.declared.tree.Piece.{Piece}
use Rattle.eb_syntax.specs.declared.tree.Word.{Word, out-Word}
use Rattle.shell_state.specs.Outcome.{Doing, ◌>>=◌, ◌<$>◌, pure, refuse}
use Rattle.shell_state.specs.declared.opts.Opts.{Opts}
use Rattle.word_meaning.specs.Lists.{all_of, braced, fields, marked, row_of, split_words}
use Rattle.word_meaning.specs.Limits.{one_text}
use Rattle.word_meaning.specs.Literals.{Entry, Words, At, elements, entries, entry_elements}
use Rattle.word_meaning.specs.Marks.{Given, Marks, bytes_of, unquoted}
use Rattle.word_meaning.specs.Pathnames.{globbed, is_pattern, pathname, without_match}
use Rattle.word_meaning.specs.Texts.{arith_text, assigned, given_marks, given_text, here_text, pattern, subscript_text, text, text_of_pieces}
use Rattle.word_meaning.specs.Words.{outermost}
use Rattle.word_meaning.specs.declared.mode.Mode.TheVariants as mode
use Rattle.word_meaning.specs.declared.mode.Tildes.{Tildes}
use Rattle.word_meaning.specs.declared.mode.Tildes.TheVariants as tildes
use Rattle.word_meaning.proofs.ReferencesKept as runs
use Rattle.word_meaning.proofs.PartsKept as parts
use Rattle.word_meaning.proofs.Respected.{Respected}

module _ (R : (A : Type 0) → Doing A → Doing A → Type 0) (respected : Respected R) where
  abbrev Pair : {A : Type 0} → Doing A → Doing A → Type 0
  Pair {A} f g = R A f g

  done : {A : Type 0} (a : A) → Pair (pure a) (pure a)
  done a = runs.done R respected a

  not_had : {A : Type 0} (f : _) → Pair {A = A} (refuse f) (refuse f)
  not_had f = runs.not_had R respected f

  bind : {A B : Type 0} (f g : Doing A) (h j : A → Doing B) → Pair f g → ((a : A) → Pair (h a) (j a)) → Pair (f >>= h) (g >>= j)
  bind f g h j = runs.bind R respected f g h j

  image : {A B : Type 0} (f g : Doing A) (h : A → B) → Pair f g → Pair (h <$> f) (h <$> g)
  image f g h p = runs.image R respected f g h p

  pub one_text_part : (t : Text) → Pair (one_text t) (one_text t)
  one_text_part t = runs.one_text_part R respected t

  given_text_part : (g : Given) → Pair (given_text g) (given_text g)
  given_text_part g = one_text_part (bytes_of g)

  given_marks_part : (g : Given) → Pair (given_marks g) (given_marks g)
  given_marks_part g = bind (given_text g) (given_text g) _ _ (given_text_part g) (λ t. done g.marks)

  pub all_part : {X Y : Type 0} (f g : X → Doing Y) → ((x : X) → Pair (f x) (g x)) → (xs : List X) → Pair (all_of f xs) (all_of g xs)
  all_part f g p [] = done []
  all_part f g p (x ∷ xs) = bind (f x) (g x) _ _ (p x) (λ y. image (all_of f xs) (all_of g xs) _ (all_part f g p xs))

  pub row_part : {X Y : Type 0} (f g : X → Doing (List Y)) → ((x : X) → Pair (f x) (g x)) → (xs : List X) → Pair (row_of f xs) (row_of g xs)
  row_part f g p [] = done []
  row_part f g p (x ∷ xs) = bind (f x) (g x) _ _ (p x) (λ ys. image (row_of f xs) (row_of g xs) _ (row_part f g p xs))

  braced_part : (w : Word) → Pair (braced w) (braced w)
  braced_part w = runs.choice R respected (nat_le (length (braces w)) 65536) _ _ _ _ (done (braces w)) (not_had _)

  without_part : (opts : Opts) (t : Text) → Pair (without_match opts t) (without_match opts t)
  without_part opts t =
      runs.choice R respected opts.failglob _ _ _ _ (not_had _) (runs.choice R respected opts.nullglob _ _ _ _ (done []) (done (t ∷ [])))

  globbed_part : (opts : Opts) (ms : Marks) → Pair (globbed opts ms) (globbed opts ms)
  globbed_part opts ms =
      runs.choice R respected (not opts.noglob && is_pattern opts.extglob (symbols_of ms)) _ _ _ _ (without_part opts (unquoted ms)) (done _)

  pathname_part : (ms : Marks) → Pair (pathname ms) (pathname ms)
  pathname_part ms = runs.looking R respected _ _ (λ at. globbed_part at.opts ms)

  -- two ways to run substitutions that keep to each other
  module _ (sub tub : Items → Doing Text) (k : (i : Items) → R Text (sub i) (tub i)) where
    alike : parts.AlikeParts R respected sub tub k (outermost sub) (outermost tub)
    alike = parts.inside_part R respected sub tub k 200

    pub text_of_pieces_part : (tilde : Tildes) (ps : List Piece) → Pair (text_of_pieces sub tilde ps) (text_of_pieces tub tilde ps)
    unfolding text_of_pieces
    text_of_pieces_part tilde ps =
        bind _ _ _ _ (parts.pieces_part R respected sub tub k (outermost sub) (outermost tub) alike mode.Text tilde ps) given_text_part

    pub assigned_part : (w : Word) → Pair (assigned sub w) (assigned tub w)
    unfolding assigned
    assigned_part w = text_of_pieces_part tildes.InValue (out-Word w).pieces

    pub text_part : (w : Word) → Pair (text sub w) (text tub w)
    unfolding text
    text_part w = text_of_pieces_part tildes.AtStart (out-Word w).pieces

    pub pattern_part : (w : Word) → Pair (pattern sub w) (pattern tub w)
    unfolding pattern
    pattern_part w =
        bind _ _ _ _ (parts.pieces_part R respected sub tub k (outermost sub) (outermost tub) alike mode.Text tildes.AtStart (out-Word w).pieces) given_marks_part

    pub here_part : (h : HereText) → Pair (here_text sub h) (here_text tub h)
    unfolding here_text
    here_part (here.Literal t) = one_text_part t
    here_part (here.Parts qs) =
        bind _ _ _ _ (parts.quoted_part R respected sub tub k (outermost sub) (outermost tub) alike mode.Text qs) given_text_part

    pub arith_part : (aps : ArithText) → Pair (arith_text sub aps) (arith_text tub aps)
    unfolding arith_text
    arith_part aps = bind _ _ _ _ (parts.arith_part R respected sub tub k (outermost sub) (outermost tub) alike aps) given_text_part

    pub subscript_part : (s : Sub) → Pair (subscript_text sub s) (subscript_text tub s)
    unfolding subscript_text
    subscript_part s = bind _ _ _ _ (parts.subscript_part R respected sub tub k (outermost sub) (outermost tub) alike s) given_text_part

    marked_part : (w : Word) → Pair (marked sub w) (marked tub w)
    unfolding marked
    marked_part w =
        image _ _ _ (parts.pieces_part R respected sub tub k (outermost sub) (outermost tub) alike mode.Fields tildes.AtStart (out-Word w).pieces)

    pub fields_part : (ws : List Word) → Pair (fields sub ws) (fields tub ws)
    unfolding fields
    fields_part ws =
        bind (row_of braced ws) (row_of braced ws) _ _ (row_part braced braced braced_part ws)
        (λ words. bind (all_of (marked sub) words) (all_of (marked tub) words) _ _ (all_part (marked sub) (marked tub) marked_part words)
        (λ found. bind (split_words found) (split_words found) _ _ (runs.seen_part R respected _)
        (λ ps. bind (row_of pathname ps) (row_of pathname ps) _ _ (row_part pathname pathname pathname_part ps) (runs.all_fields_part R respected))))

    entry_part : (e : Entry) → Pair (entry_elements sub e) (entry_elements tub e)
    entry_part (Words ws) = image (fields sub ws) (fields tub ws) _ (fields_part ws)
    entry_part (At index value) =
        bind _ _ _ _ (text_of_pieces_part tildes.Nowhere index)
        (λ t. bind (evaluates t) (evaluates t) _ _ (runs.evaluates_part R respected t)
        (λ i. image (text_of_pieces sub tildes.InValue value) (text_of_pieces tub tildes.InValue value) _ (text_of_pieces_part tildes.InValue value)))

    pub elements_part : (ws : List Word) → Pair (elements sub ws) (elements tub ws)
    unfolding elements
    elements_part ws = row_part (entry_elements sub) (entry_elements tub) entry_part (entries ws)
