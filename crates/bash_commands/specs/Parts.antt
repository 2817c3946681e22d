-- Parts of rules that have a reader of their own.
use Rattle.std.specs.Prelude.{List, [], ◌∷◌, Option, Some}
use Rattle.eb_bytes.specs.Text.{Text}
use Rattle.eb_syntax.specs.declared.tree.Argument.{Argument}
use Rattle.eb_syntax.specs.declared.tree.Argument.TheVariants as a
use Rattle.eb_syntax.specs.declared.tree.Command.{Command}
use Rattle.eb_syntax.specs.declared.tree.Command.TheVariants as c
use Rattle.eb_syntax.specs.declared.tree.Prefix.{Prefix}
use Rattle.eb_syntax.specs.declared.tree.Decl.{Decl, roll-Decl}
use Rattle.eb_syntax.specs.declared.tree.Redir.{Redir}
use Rattle.eb_syntax.specs.declared.tree.Simple.{Simple, roll-Simple}
use Rattle.eb_grammar.specs.Commands.{argument, compound_command, decl, decl_name, prefix, simple, tail}
use Rattle.eb_grammar.specs.Compounds.{compound}
use Rattle.eb_grammar.specs.HereDocuments.{lines}
use Rattle.eb_grammar.specs.Names.{blanks, function_name, kw, name, some_blanks}
use Rattle.eb_grammar.specs.Peg.{Rule, ◌>>=◌, ◌>>◌, ◌<$>◌, ◌</>◌, followed_by, lit, many, maybe, pure, stands}
use Rattle.eb_grammar.specs.Redirections.{assign, redir}
use Rattle.eb_grammar.specs.Rules.{Rules}
use Rattle.eb_grammar.specs.Words.{word}

-- Name "["
abbrev pub name_bracket : Rule (Unit {0})
name_bracket = name >> lit "["

-- B "(" B ")"
abbrev pub empty_parentheses : Rule (Unit {0})
empty_parentheses = blanks >> lit "(" >> blanks >> lit ")"

-- FName B "(" B ")"
unfoldable pub function_head : Rule Text
function_head = do
  called ← function_name
  empty_parentheses
  pure called

-- Kw("function") Blank+ FName (B "(" B ")")?
unfoldable pub keyword_head : Rule Text
keyword_head = do
  kw "function"
  some_blanks
  called ← function_name
  stands empty_parentheses
  pure called

module _ (inside : Option Rules) where
  -- (Assign / Redir) B
  abbrev pub prefix_blanks : Rule Prefix
  prefix_blanks = followed_by (prefix inside) blanks

  -- B Redir
  abbrev pub blank_redir : Rule Redir
  blank_redir = blanks >> redir inside

  -- Assign / Word
  abbrev pub argument_word : Rule Argument
  argument_word = a.Assign <$> assign inside </> a.Word <$> word inside

  -- a simple command after these assignments and redirections
  unfoldable pub simple_with : List Prefix → Rule Simple
  simple_with [] = (λ rest. roll-Simple (record { before = []; tail = Some rest })) <$> tail inside
  simple_with (x ∷ xs) = (λ rest. roll-Simple (record { before = x ∷ xs; tail = rest })) <$> maybe (tail inside)

  -- a declaration after these
  unfoldable pub decl_with : List Prefix → Rule Decl
  decl_with before = do
    called ← decl_name
    arguments ← many (argument inside)
    pure (roll-Decl (record { before = before; name = called; arguments = arguments }))

  -- Decl / Simple
  abbrev pub decl_or_simple : Rule Command
  decl_or_simple = c.Decl <$> decl inside </> c.Simple <$> simple inside

  -- Lines Compound (B Redir)*
  abbrev pub function_body : Rule Command
  function_body = lines inside >> compound_command inside

  -- Compound / Simple
  abbrev pub coproc_command : Rule Command
  coproc_command = (λ x. c.Compound x []) <$> compound inside </> c.Simple <$> simple inside
