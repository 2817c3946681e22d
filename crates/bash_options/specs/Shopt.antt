-- `shopt` ("The Shopt Builtin").
use Rattle.std.specs.Prelude.{ℕ, Bool, true, false, not, ◌&&◌, ◌||◌, fold, flat_map, List, ◌++◌, codes, if◌then◌else◌}
use Rattle.std.specs.List.{list_all}
use Rattle.eb_bytes.specs.Text.{Text}
use Rattle.shell_state.specs.Outcome.{Doing, Ended, ◌>>◌, pure, refuse}
use Rattle.shell_state.specs.Output.{prints}
use Rattle.shell_state.specs.declared.opts.Opts.{Opts}
use Rattle.bash_options.specs.Options.{is_on, with_option}
use Rattle.bash_options.specs.Use.{Use, Asks, IsWrong, use_of}
use Rattle.bash_options.specs.declared.shopt_words.Asked.{Asked}

-- the options once those of these names are on or off, where that is asked
abbrev pub switched : Asked → Opts → List Text → Opts
switched a opts ws =
    if a.sets then fold (with_option true) opts ws
    else (if a.unsets then fold (with_option false) opts ws else opts)

abbrev pub switch : Bool → Text
switch on = if on then codes "-s " else codes "-u "

-- how the option of a name is switched to what it is
abbrev pub line : Opts → Text → Text
line opts t = codes "shopt " ++ (switch (is_on opts t) ++ (t ++ codes "\n"))

abbrev pub lines : Opts → List Text → Text
lines opts ws = flat_map (line opts) ws

-- whether the status tells if all are on: with `q`, and where nothing else is asked (own)
abbrev pub tells : Asked → Bool
tells a = a.quiet || not (a.sets || a.unsets || a.prints)

abbrev pub status : Asked → Opts → List Text → ℕ
status a opts ws = if tells a && not (list_all (is_on opts) ws) then 1 else 0

abbrev pub shows : Asked → Text → Doing (Unit {0})
shows a t = if a.prints then prints t else pure tt

-- prints what is asked, of the options as they are then
abbrev pub ends_with : Asked → List Text → Opts → Doing ℕ
ends_with a ws opts = shows a (lines opts ws) >> (λ at. Ended (status a opts ws) (record at { opts = opts }))

abbrev pub acts : Use → Doing ℕ
acts (Asks a ws) = λ at. ends_with a ws (switched a at.opts ws) at
acts (IsWrong why) = refuse why

unfoldable pub shopt : List Text → Doing ℕ
shopt ws = acts (use_of ws)
