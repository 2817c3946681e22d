-- The layer of a node of a command that is built.
use Rattle.std.proofs.Common.{◌≡◌, ℕ, Bool, List, Option, sym, ap, ◌∙◌}
use Rattle.eb_bytes.specs.Text.{Text}
use Rattle.eb_syntax.specs.Tree.{ArithText, Assigned, Elif, Item, Or, Sub}
use Rattle.eb_syntax.specs.declared.parts.BinOp.{BinOp}
use Rattle.eb_syntax.specs.declared.parts.ClauseEnd.{ClauseEnd}
use Rattle.eb_syntax.specs.declared.parts.DeclName.{DeclName}
use Rattle.eb_syntax.specs.declared.parts.FileOp.{FileOp}
use Rattle.eb_syntax.specs.declared.tree.AP.TheOpen.{Command-F, Compound-F, Not-F, Prefix-F, Primary-F, Redir-F, TailPart-F}
use Rattle.eb_syntax.specs.declared.tree.AP.TheViews.{out-roll-Assign, out-roll-Clause, out-roll-Command, out-roll-Compound, out-roll-Decl, out-roll-Items, out-roll-Not, out-roll-Prefix, out-roll-Primary, out-roll-Redir, out-roll-Simple, out-roll-Tail, out-roll-TailPart}
use Rattle.eb_syntax.specs.declared.tree.Argument.{Argument}
use Rattle.eb_syntax.specs.declared.tree.Assign.{Assign, out-Assign, roll-Assign}
use Rattle.eb_syntax.specs.declared.tree.Clause.{Clause, out-Clause, roll-Clause}
use Rattle.eb_syntax.specs.declared.tree.Command.{out-Command}
use Rattle.eb_syntax.specs.declared.tree.Command.TheVariants as command
use Rattle.eb_syntax.specs.declared.tree.Compound.{Compound, out-Compound}
use Rattle.eb_syntax.specs.declared.tree.Compound.TheVariants as compound
use Rattle.eb_syntax.specs.declared.tree.Decl.{Decl, out-Decl, roll-Decl}
use Rattle.eb_syntax.specs.declared.tree.Items.{Items, out-Items, roll-Items}
use Rattle.eb_syntax.specs.declared.tree.Not.{Not, out-Not}
use Rattle.eb_syntax.specs.declared.tree.Not.TheVariants as not_
use Rattle.eb_syntax.specs.declared.tree.Prefix.{Prefix, out-Prefix}
use Rattle.eb_syntax.specs.declared.tree.Prefix.TheVariants as prefix
use Rattle.eb_syntax.specs.declared.tree.Primary.{Primary, out-Primary}
use Rattle.eb_syntax.specs.declared.tree.Primary.TheVariants as primary
use Rattle.eb_syntax.specs.declared.tree.Redir.{Redir, out-Redir}
use Rattle.eb_syntax.specs.declared.tree.Redir.TheVariants as redir
use Rattle.eb_syntax.specs.declared.tree.RegexPart.{RegexPart}
use Rattle.eb_syntax.specs.declared.tree.Simple.{Simple, out-Simple, roll-Simple}
use Rattle.eb_syntax.specs.declared.tree.Tail.{Tail, out-Tail, roll-Tail}
use Rattle.eb_syntax.specs.declared.tree.TailPart.{TailPart, out-TailPart}
use Rattle.eb_syntax.specs.declared.tree.TailPart.TheVariants as tail
use Rattle.eb_syntax.specs.declared.tree.Word.{Word}

pub items_built : (items : List Item) → out-Items (roll-Items (record { items = items })) ≡ record { items = items }
items_built items = out-roll-Items (record { items = items })

pub simple_built : (before : List Prefix) (tail : Option Tail) → out-Simple (roll-Simple (record { before = before; tail = tail })) ≡ record { before = before; tail = tail }
simple_built before tail = out-roll-Simple (record { before = before; tail = tail })

pub tail_built : (first : Word) (others : List TailPart) → out-Tail (roll-Tail (record { first = first; others = others })) ≡ record { first = first; others = others }
tail_built first others = out-roll-Tail (record { first = first; others = others })

pub decl_built : (before : List Prefix) (name : DeclName) (arguments : List Argument) → out-Decl (roll-Decl (record { before = before; name = name; arguments = arguments })) ≡ record { before = before; name = name; arguments = arguments }
decl_built before name arguments = out-roll-Decl (record { before = before; name = name; arguments = arguments })

pub clause_built : (first : Word) (others : List Word) (items : Items) (end : ClauseEnd) → out-Clause (roll-Clause (record { first = first; others = others; items = items; end = end })) ≡ record { first = first; others = others; items = items; end = end }
clause_built first others items end = out-roll-Clause (record { first = first; others = others; items = items; end = end })

pub assign_built : (name : Text) (sub : Option Sub) (append : Bool) (value : Assigned) → out-Assign (roll-Assign (record { name = name; sub = sub; append = append; value = value })) ≡ record { name = name; sub = sub; append = append; value = value }
assign_built name sub append value = out-roll-Assign (record { name = name; sub = sub; append = append; value = value })

pub simple_command : (s : Simple) → out-Command (command.Simple s) ≡ Command-F.Simple s
simple_command s = ap out-Command (sym (command.rolls-Simple s)) ∙ out-roll-Command (Command-F.Simple s)

pub compound_command : (c : Compound) (rs : List Redir) → out-Command (command.Compound c rs) ≡ Command-F.Compound c rs
compound_command c rs = ap out-Command (sym (command.rolls-Compound c rs)) ∙ out-roll-Command (Command-F.Compound c rs)

pub decl_command : (d : Decl) → out-Command (command.Decl d) ≡ Command-F.Decl d
decl_command d = ap out-Command (sym (command.rolls-Decl d)) ∙ out-roll-Command (Command-F.Decl d)

pub group : (i : Items) → out-Compound (compound.Group i) ≡ Compound-F.Compound::Group i
group i = ap out-Compound (sym (compound.rolls-Group i)) ∙ out-roll-Compound (Compound-F.Compound::Group i)

pub arith : (t : ArithText) → out-Compound (compound.Arith t) ≡ Compound-F.Compound::Arith t
arith t = ap out-Compound (sym (compound.rolls-Arith t)) ∙ out-roll-Compound (Compound-F.Compound::Arith t)

pub subshell_built : (i : Items) → out-Compound (compound.Subshell i) ≡ Compound-F.Subshell i
subshell_built i = ap out-Compound (sym (compound.rolls-Subshell i)) ∙ out-roll-Compound (Compound-F.Subshell i)

pub if_built : (test : Items) (body : Items) (others : List Elif) (other : Option Items) → out-Compound (compound.If test body others other) ≡ Compound-F.If test body others other
if_built test body others other = ap out-Compound (sym (compound.rolls-If test body others other)) ∙ out-roll-Compound (Compound-F.If test body others other)

pub while_built : (test : Items) (body : Items) → out-Compound (compound.While test body) ≡ Compound-F.While test body
while_built test body = ap out-Compound (sym (compound.rolls-While test body)) ∙ out-roll-Compound (Compound-F.While test body)

pub until_built : (test : Items) (body : Items) → out-Compound (compound.Until test body) ≡ Compound-F.Until test body
until_built test body = ap out-Compound (sym (compound.rolls-Until test body)) ∙ out-roll-Compound (Compound-F.Until test body)

pub for_arith : (first : ArithText) (test : ArithText) (after : ArithText) (body : Items) → out-Compound (compound.ForArith first test after body) ≡ Compound-F.ForArith first test after body
for_arith first test after body = ap out-Compound (sym (compound.rolls-ForArith first test after body)) ∙ out-roll-Compound (Compound-F.ForArith first test after body)

pub for_built : (x : Text) (ws : Option (List Word)) (body : Items) → out-Compound (compound.For x ws body) ≡ Compound-F.For x ws body
for_built x ws body = ap out-Compound (sym (compound.rolls-For x ws body)) ∙ out-roll-Compound (Compound-F.For x ws body)

pub select_built : (x : Text) (ws : Option (List Word)) (body : Items) → out-Compound (compound.Select x ws body) ≡ Compound-F.Select x ws body
select_built x ws body = ap out-Compound (sym (compound.rolls-Select x ws body)) ∙ out-roll-Compound (Compound-F.Select x ws body)

pub case_built : (w : Word) (cs : List Clause) → out-Compound (compound.Case w cs) ≡ Compound-F.Compound::Case w cs
case_built w cs = ap out-Compound (sym (compound.rolls-Case w cs)) ∙ out-roll-Compound (Compound-F.Compound::Case w cs)

pub test_built : (o : Or) → out-Compound (compound.Test o) ≡ Compound-F.Test o
test_built o = ap out-Compound (sym (compound.rolls-Test o)) ∙ out-roll-Compound (Compound-F.Test o)

pub word_after : (w : Word) → out-TailPart (tail.Word w) ≡ TailPart-F.TailPart::Word w
word_after w = ap out-TailPart (sym (tail.rolls-Word w)) ∙ out-roll-TailPart (TailPart-F.TailPart::Word w)

pub redir_after : (r : Redir) → out-TailPart (tail.Redir r) ≡ TailPart-F.TailPart::Redir r
redir_after r = ap out-TailPart (sym (tail.rolls-Redir r)) ∙ out-roll-TailPart (TailPart-F.TailPart::Redir r)

pub assign_before : (a : Assign) → out-Prefix (prefix.Assign a) ≡ Prefix-F.Prefix::Assign a
assign_before a = ap out-Prefix (sym (prefix.rolls-Assign a)) ∙ out-roll-Prefix (Prefix-F.Prefix::Assign a)

pub redir_before : (r : Redir) → out-Prefix (prefix.Redir r) ≡ Prefix-F.Prefix::Redir r
redir_before r = ap out-Prefix (sym (prefix.rolls-Redir r)) ∙ out-roll-Prefix (Prefix-F.Prefix::Redir r)

pub file_redir : (digits : Text) (by : FileOp) (w : Word) → out-Redir (redir.File digits by w) ≡ Redir-F.File digits by w
file_redir digits by w = ap out-Redir (sym (redir.rolls-File digits by w)) ∙ out-roll-Redir (Redir-F.File digits by w)

pub not_prim : (p : Primary) → out-Not (not_.Prim p) ≡ Not-F.Prim p
not_prim p = ap out-Not (sym (not_.rolls-Prim p)) ∙ out-roll-Not (Not-F.Prim p)

pub not_not : (n : Not) → out-Not (not_.Not n) ≡ Not-F.Not n
not_not n = ap out-Not (sym (not_.rolls-Not n)) ∙ out-roll-Not (Not-F.Not n)

pub word_primary : (w : Word) → out-Primary (primary.Word w) ≡ Primary-F.Primary::Word w
word_primary w = ap out-Primary (sym (primary.rolls-Word w)) ∙ out-roll-Primary (Primary-F.Primary::Word w)

pub unary_primary : (letter : ℕ) (w : Word) → out-Primary (primary.Unary letter w) ≡ Primary-F.Unary letter w
unary_primary letter w = ap out-Primary (sym (primary.rolls-Unary letter w)) ∙ out-roll-Primary (Primary-F.Unary letter w)

pub binary_primary : (a : Word) (op : BinOp) (b : Word) → out-Primary (primary.Binary a op b) ≡ Primary-F.Binary a op b
binary_primary a op b = ap out-Primary (sym (primary.rolls-Binary a op b)) ∙ out-roll-Primary (Primary-F.Binary a op b)

pub matches_primary : (w : Word) (r : List RegexPart) → out-Primary (primary.Matches w r) ≡ Primary-F.Matches w r
matches_primary w r = ap out-Primary (sym (primary.rolls-Matches w r)) ∙ out-roll-Primary (Primary-F.Matches w r)

pub ruleset built = (items_built, simple_built, tail_built, decl_built, clause_built, assign_built, simple_command, compound_command, decl_command, group, arith, subshell_built, if_built, while_built, until_built, for_arith, for_built, select_built, case_built, test_built, word_after, redir_after, assign_before, redir_before, file_redir, not_prim, not_not, word_primary, unary_primary, binary_primary, matches_primary)
