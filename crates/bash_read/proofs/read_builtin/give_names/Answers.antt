use Rattle.std.proofs.Common.{◌≡◌, ◌-◌, length, take, drop, ap, subst, sym, ◌∙◌, arith}
use Rattle.shell_state.specs.Outcome.{Tells}
use Rattle.bash_read.specs.Parts.{texts_for}
use Rattle.bash_read.specs.Read.{ifs_of}
use Rattle.bash_read.proofs.Names.{names_taken, others_length}
use Rattle.bash_read.proofs.read_builtin.give_names.Goals as goal

pub returns-clause-means : goal.returns-clause-means
returns-clause-means c at same =
    let n = length (take (length c.args.names.now - 1) (drop 1 c.args.names.now)) in
    let texts : c.as_slice-4.result.now ≡ texts_for (ifs_of c.args.vars.now.present) n c.args.marks.now =
    c.as_slice-4.ensures.value ∙ c.in_ok-texts.ensures
    ∙ ap (λ i. texts_for i n c.as_slice-3.result.now) (c.as_slice-2.ensures ∙ c.in_ok-ifs.ensures)
    ∙ ap (λ m. texts_for (ifs_of c.args.vars.now.present) n m) c.as_slice-3.ensures in
    subst (λ o. Tells c.give_each.result o (record at { store = c.give_each.new.vars.present }))
    (sym (names_taken (ifs_of c.args.vars.now.present) c.args.marks.now n c.args.names.now c.as_slice-4.result.now at
    (others_length c.args.names.now (omega arith)) texts))
    (c.give_each.ensures.means at same)
