-- Commands and lists of commands. Bash Reference Manual, "Shell Commands" and "Shell Functions".
use Rattle.std.specs.Prelude.{true, false, List, [], ◌∷◌, map, Option, Some, Ok, Err, if◌then◌else◌}
use Rattle.eb_syntax.specs.declared.parts.ItemEnd.{ItemEnd}
use Rattle.eb_syntax.specs.declared.parts.ItemEnd.TheVariants as e
use Rattle.eb_syntax.specs.declared.parts.Junction.{Junction}
use Rattle.eb_syntax.specs.declared.parts.Junction.TheVariants as j
use Rattle.eb_syntax.specs.declared.parts.PipeMark.{PipeMark}
use Rattle.eb_syntax.specs.declared.parts.PipeMark.TheVariants as m
use Rattle.eb_syntax.specs.declared.parts.Bar.{Bar}
use Rattle.eb_syntax.specs.declared.parts.Bar.TheVariants as bar_
use Rattle.eb_syntax.specs.declared.parts.DeclName.{DeclName}
use Rattle.eb_syntax.specs.declared.parts.DeclName.TheVariants as n
use Rattle.eb_syntax.specs.declared.tree.Items.{Items, roll-Items}
use Rattle.eb_syntax.specs.declared.tree.Command.{Command}
use Rattle.eb_syntax.specs.declared.tree.Command.TheVariants as c
use Rattle.eb_syntax.specs.declared.tree.Decl.{Decl, roll-Decl}
use Rattle.eb_syntax.specs.declared.tree.Simple.{Simple, roll-Simple}
use Rattle.eb_syntax.specs.declared.tree.Tail.{Tail, roll-Tail}
use Rattle.eb_syntax.specs.declared.tree.TailPart.{TailPart}
use Rattle.eb_syntax.specs.declared.tree.TailPart.TheVariants as t
use Rattle.eb_syntax.specs.declared.tree.Prefix.{Prefix}
use Rattle.eb_syntax.specs.declared.tree.Prefix.TheVariants as p
use Rattle.eb_syntax.specs.declared.tree.Argument.{Argument}
use Rattle.eb_syntax.specs.declared.tree.Argument.TheVariants as a
use Rattle.eb_syntax.specs.Tree.{AndOr, Body, Coproc, FuncDef, Item, Joined, Pipe, Piped}
use Rattle.eb_grammar.specs.Peg.{Spot, Outcome, No, Rule, ◌>>=◌, ◌>>◌, ◌<$>◌, ◌</>◌, pure, maybe, stands, not_at, at, many, some, gather, single, followed_by, lit, ends, end}
use Rattle.eb_grammar.specs.Names.{blank, blanks, some_blanks, comment, kw, reserved, closer, name, function_name}
use Rattle.eb_grammar.specs.Words.{word}
use Rattle.eb_grammar.specs.HereDocuments.{newline, lines}
use Rattle.eb_grammar.specs.Redirections.{redir, assign}
use Rattle.eb_grammar.specs.Compounds.{compound}
use Rattle.eb_grammar.specs.Fill.{filled_item}
use Rattle.eb_grammar.specs.Rules.{Rules}

-- DeclName <- Kw of one of: declare typeset local export readonly           ("Bash Builtins")
unfoldable pub decl_name : Rule DeclName
decl_name = kw "declare" >> pure n.Declare
    </> kw "typeset" >> pure n.Typeset
    </> kw "local" >> pure n.Local
    </> kw "export" >> pure n.Export
    </> kw "readonly" >> pure n.Readonly

-- Kw("time") B (Kw("-p") B)?
unfoldable pub time_mark : Rule PipeMark
time_mark = do
  kw "time"
  blanks
  posix ← stands (kw "-p" >> blanks)
  pure (if posix then m.TimePosix else m.Time)

-- Kw("!") B / Kw("time") B (Kw("-p") B)?
unfoldable pub pipe_mark : Rule PipeMark
pipe_mark = kw "!" >> blanks >> pure m.Not
    </> time_mark

-- "|&" / "|" !"|"
unfoldable pub bar : Rule Bar
bar = lit "|&" >> pure bar_.Both
    </> lit "|" >> not_at (lit "|") >> pure bar_.Plain

-- "&&" / "||"
unfoldable pub junction : Rule Junction
junction = lit "&&" >> pure j.And
    </> lit "||" >> pure j.Or

-- "\n" / "#" / ")" / ";;" / ";&" / Closer / End
unfoldable pub stop : Rule (Unit {0})
stop = lit "\n" </> lit "#" </> lit ")" </> lit ";;" </> lit ";&" </> closer </> end

-- ItemEnd <- ";" !(";" / "&") / "&" !("&" / ">") / &("\n" / "#" / ")" / ";;" / ";&" / Closer / End)     ("Lists of Commands")
unfoldable pub item_end : Rule ItemEnd
item_end = lit ";" >> not_at (lit ";" </> lit "&") >> pure e.Semicolon
    </> lit "&" >> not_at (lit "&" </> lit ">") >> pure e.Ampersand
    </> at stop >> pure e.Ahead

abbrev pub items_of : List Item → Items
items_of found = roll-Items (record { items = found })

-- the marks and bodies that were set aside come back; a mark that waits has no body, and the bodies go into the redirections
abbrev pub close : Spot → Outcome (List Item) → Outcome Items
close outer (Ok x) = if ends x.1.waiting then Ok (items_of (map (filled_item x.1.bodies) x.0), record (x.1) { waiting = outer.waiting; bodies = outer.bodies }) else Err No
close outer (Err e) = Err e

-- a list of commands with here-documents of its own
unfoldable pub own : Rule (List Item) → Rule Items
own p = λ s. close s (p (record s { waiting = []; bodies = [] }))

module _ (inside : Option Rules) where
  -- ---- simple commands

  -- Assign / Redir
  unfoldable pub prefix : Rule Prefix
  prefix = p.Assign <$> assign inside
      </> p.Redir <$> redir inside

  -- B (Redir / Word)
  unfoldable pub tail_part : Rule TailPart
  tail_part = blanks >> (t.Redir <$> redir inside </> t.Word <$> word inside)

  -- Tail <- !Reserved !(Name "[") Word (B (Redir / Word))*
  unfoldable pub tail : Rule Tail
  tail = do
    not_at reserved
    not_at (name >> lit "[")
    first ← word inside
    others ← many tail_part
    pure (roll-Tail (record { first = first; others = others }))

  -- ((Assign / Redir) B)+ Tail?
  unfoldable pub prefixed : Rule Simple
  prefixed = do
    before ← some (followed_by prefix blanks)
    rest ← maybe tail
    pure (roll-Simple (record { before = before; tail = rest }))

  -- Simple <- ((Assign / Redir) B)+ Tail? / Tail                            ("Simple Commands")
  unfoldable pub simple : Rule Simple
  simple = prefixed
      </> (λ rest. roll-Simple (record { before = []; tail = Some rest })) <$> tail

  -- B Redir / Blank+ (Assign / Word)
  unfoldable pub argument : Rule Argument
  argument = a.Redir <$> (blanks >> redir inside)
      </> some_blanks >> (a.Assign <$> assign inside </> a.Word <$> word inside)

  -- Decl <- ((Assign / Redir) B)* DeclName (B Redir / Blank+ (Assign / Word))*        ("Bash Builtins")
  unfoldable pub decl : Rule Decl
  decl = do
    before ← many (followed_by prefix blanks)
    called ← decl_name
    arguments ← many argument
    pure (roll-Decl (record { before = before; name = called; arguments = arguments }))

  -- ---- functions and coprocesses

  -- Compound (B Redir)*
  unfoldable pub compound_command : Rule Command
  compound_command = do
    what ← compound inside
    redirs ← many (blanks >> redir inside)
    pure (c.Compound what redirs)

  -- FName B "(" B ")" Lines Compound (B Redir)*
  unfoldable pub named_function : Rule FuncDef
  named_function = do
    called ← function_name
    blanks
    lit "("
    blanks
    lit ")"
    lines inside
    body ← compound_command
    pure (record { keyword = false; name = called; body = body })

  -- Kw("function") Blank+ FName (B "(" B ")")? Lines Compound (B Redir)*
  unfoldable pub keyword_function : Rule FuncDef
  keyword_function = do
    kw "function"
    some_blanks
    called ← function_name
    stands (blanks >> lit "(" >> blanks >> lit ")")
    lines inside
    body ← compound_command
    pure (record { keyword = true; name = called; body = body })

  -- FuncDef <- FName B "(" B ")" Lines Compound (B Redir)* / Kw("function") Blank+ FName (B "(" B ")")? Lines Compound (B Redir)*
  --                                                                         ("Shell Functions")
  unfoldable pub function : Rule FuncDef
  function = named_function </> keyword_function

  -- Coproc <- Kw("coproc") B (Compound / Simple)                            ("Coprocesses")
  unfoldable pub coproc : Rule Coproc
  coproc = do
    kw "coproc"
    blanks
    what ← (λ x. c.Compound x []) <$> compound inside </> c.Simple <$> simple
    pure (record { command = what })

  -- Command <- Compound (B Redir)* / FuncDef / Coproc / Decl / Simple       ("Shell Commands")
  unfoldable pub command : Rule Command
  command = compound_command
      </> c.FuncDef <$> function
      </> c.Coproc <$> coproc
      </> c.Decl <$> decl
      </> c.Simple <$> simple

  -- ---- pipelines and lists

  -- B ("|&" / "|" !"|") Lines Command
  unfoldable pub piped : Rule Piped
  piped = do
    blanks
    how ← bar
    lines inside
    what ← command
    pure (record { bar = how; command = what })

  -- Pipe <- (Kw("!") B / Kw("time") B (Kw("-p") B)?)* Command (B ("|&" / "|" !"|") Lines Command)*      ("Pipelines")
  unfoldable pub pipe : Rule Pipe
  pipe = do
    marks ← many pipe_mark
    first ← command
    others ← many piped
    pure (record { marks = marks; first = first; others = others })

  -- B ("&&" / "||") Lines Pipe
  unfoldable pub joined : Rule Joined
  joined = do
    blanks
    how ← junction
    lines inside
    what ← pipe
    pure (record { junction = how; pipe = what })

  -- AndOr <- Pipe (B ("&&" / "||") Lines Pipe)*                             ("Lists of Commands")
  unfoldable pub and_or : Rule AndOr
  and_or = do
    first ← pipe
    others ← many joined
    pure (record { first = first; others = others })

  -- Item <- AndOr B ItemEnd
  unfoldable pub item : Rule Item
  item = do
    list ← and_or
    blanks
    stop ← item_end
    pure (record { list = list; end = stop })

  -- Blank / Newline / Comment / Item
  unfoldable pub turn : Rule (List Item)
  turn = blank >> pure []
      </> newline inside >> pure []
      </> comment >> pure []
      </> single <$> item

  -- Items <- (Blank / Newline / Comment / Item)*
  unfoldable pub items : Rule Items
  items = own (gather turn)

  -- Lines Item Items, which for here-documents counts as one Items
  unfoldable pub item_and_items : Rule (List Item)
  item_and_items = do
    lines inside
    first ← item
    others ← gather turn
    pure (first ∷ others)

  -- Body <- Lines Item Items
  unfoldable pub body : Rule Body
  body = own item_and_items
