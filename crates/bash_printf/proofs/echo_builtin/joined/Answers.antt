use Rattle.std.proofs.Common.{◌≡◌, ◌∷◌, ◌+◌, ◌-◌, length, take, drop, add-one, drop-cons}
use Rattle.eb_bytes.proofs.Joined.{join-turn}
use Rattle.bash_printf.proofs.echo_builtin.joined.Goals as goal

pub loop-word-preserved : goal.loop-word-preserved
loop-word-preserved c =
    let others = take (length c.args.words.now - 1) (drop 1 c.args.words.now) in
    let cut = drop-cons others c.loop-word.word-index c.word-item.result c.loop-word-test.true in
    let next : drop c.loop-word.word-index others ≡ c.as_slice.result.now ∷ drop (c.loop-word.word-index + 1) others = rw add-one (cc) in
    join-turn _ _ _ _ _ _ _ c.in_ok-extend.ensures.ok c.in_ok-extend-2.ensures.ok next c.loop-word.invariant
