-- The commands of the program, as `clap` reads them.
use Rattle.std.specs.Prelude.{◌≡◌, ℕ, Some, codes, true, false}
use Rattle.clap.specs.Words.{App, Rule, Text, app_of, new_app, new_rule, with_rule, with_subcommand}
use Rattle.clap.specs.declared.builder.action.ArgAction.TheVariants.{Append, SetTrue}
use Rattle.clap.specs.declared.builder.command.Command.{Command}
use Rattle.clap.specs.declared.builder.command.Command.TheViews.{out-Command}

-- `SOURCE`, a required word of its own
abbrev pub source_rule : Rule
source_rule = record (new_rule (codes "source")) { value_names = 1; required = true }

-- `--NAME VALUE`, required, any text
abbrev pub text_rule : Text → Rule
text_rule name =
    record (new_rule name) { long = Some name; value_names = 1; required = true }

-- `--NAME`, which stands there or not
abbrev pub flag_rule : Text → Rule
flag_rule name = record (new_rule name) { long = Some name; action = Some SetTrue }

-- `--decided`, which stands there or not
abbrev pub decided_rule : Rule
decided_rule = flag_rule (codes "decided")

-- `--NAME VALUE`, which may be left out
abbrev pub optional_rule : Text → Rule
optional_rule name = record (new_rule name) { long = Some name; value_names = 1 }

-- `--format FORMAT`, which may be left out
abbrev pub format_rule : Rule
format_rule = optional_rule (codes "format")

-- the same with `[--decided] [--format FORMAT] [--by BY] [--vars LIST] [--changed]`
abbrev pub with_form : App → App
with_form app =
    with_rule (with_rule (with_rule (with_rule (with_rule app decided_rule) format_rule)
    (optional_rule (codes "by"))) (optional_rule (codes "vars"))) (flag_rule (codes "changed"))

-- `run SOURCE --schedule FILE` and the form of the report
abbrev pub run_app : App
run_app =
    with_form (with_rule (with_rule (new_app (codes "run")) source_rule)
    (text_rule (codes "schedule")))

-- `threads SOURCE --setup FILE --trace FILE [--decided]`
abbrev pub threads_app : App
threads_app =
    with_rule (with_rule (with_rule (with_rule (new_app (codes "threads")) source_rule)
    (text_rule (codes "setup"))) (text_rule (codes "trace"))) decided_rule

-- `check SOURCE [--format FORMAT]`
abbrev pub check_app : App
check_app = with_rule (with_rule (new_app (codes "check")) source_rule) format_rule

-- `show SOURCE`
abbrev pub show_app : App
show_app = with_rule (new_app (codes "show")) source_rule

-- `judge SOURCE --schedule FILE --correct LIST --delta D --gst G [--format FORMAT]`
abbrev pub judge_app : App
judge_app =
    with_rule (with_rule (with_rule (with_rule (with_rule (with_rule (new_app (codes "judge"))
    source_rule) (text_rule (codes "schedule"))) (text_rule (codes "correct")))
    (text_rule (codes "delta"))) (text_rule (codes "gst"))) format_rule

-- `draw SOURCE --schedule FILE [--rounds RANGE] [--nodes LIST] [--grid] [--html]`
abbrev pub draw_app : App
draw_app =
    with_rule (with_rule (with_rule (with_rule (with_rule (with_rule (new_app (codes "draw"))
    source_rule) (text_rule (codes "schedule"))) (optional_rule (codes "rounds")))
    (optional_rule (codes "nodes"))) (flag_rule (codes "grid"))) (flag_rule (codes "html"))

-- `lockstep SOURCE --header FILE --correct LIST --delta D --gst G`
abbrev pub required_lockstep_app : App
required_lockstep_app =
    with_rule (with_rule (with_rule (with_rule (with_rule (new_app (codes "lockstep")) source_rule)
    (text_rule (codes "header"))) (text_rule (codes "correct"))) (text_rule (codes "delta")))
    (text_rule (codes "gst"))

-- `--NAME VALUE ..`, an option of n values, which may be left out or repeated
abbrev pub repeated_rule : Text → ℕ → Rule
repeated_rule name n =
    record (new_rule name) { long = Some name; value_names = n; action = Some Append }

-- the same with `[--delays LIST] [--orders LIST] [--ticks T]`
abbrev pub paced_lockstep_app : App
paced_lockstep_app =
    with_rule (with_rule (with_rule required_lockstep_app (optional_rule (codes "delays")))
    (optional_rule (codes "orders"))) (optional_rule (codes "ticks"))

-- the same with `[--stop I C].. [--omissions FILE] [--delay J I R W]..`
abbrev pub lockstep_app : App
lockstep_app =
    with_rule (with_rule (with_rule paced_lockstep_app (repeated_rule (codes "stop") 2))
    (optional_rule (codes "omissions"))) (repeated_rule (codes "delay") 4)

-- `realise SOURCE --header FILE --omissions FILE`
abbrev pub realise_app : App
realise_app =
    with_rule (with_rule (with_rule (new_app (codes "realise")) source_rule)
    (text_rule (codes "header"))) (text_rule (codes "omissions"))

-- `rounds SOURCE --header FILE --omissions FILE` and the form of the report
abbrev pub rounds_app : App
rounds_app =
    with_form (with_rule (with_rule (with_rule (new_app (codes "rounds")) source_rule)
    (text_rule (codes "header"))) (text_rule (codes "omissions")))

-- `explore SOURCE --header FILE`
abbrev pub explore_by_header_app : App
explore_by_header_app =
    with_rule (with_rule (new_app (codes "explore")) source_rule) (text_rule (codes "header"))

-- the same with `[--inputs INPUTS] [--faults FAULTS] [--clear C] [--hears M]`
abbrev pub explore_some_runs_app : App
explore_some_runs_app =
    with_rule (with_rule (with_rule (with_rule explore_by_header_app
    (optional_rule (codes "inputs"))) (optional_rule (codes "faults")))
    (optional_rule (codes "clear"))) (optional_rule (codes "hears"))

-- the same with `[--part I/N] [--jobs J] [--sample COUNT] [--seed S]`
abbrev pub explore_by_search_app : App
explore_by_search_app =
    with_rule (with_rule (with_rule (with_rule explore_some_runs_app
    (optional_rule (codes "part"))) (optional_rule (codes "jobs")))
    (optional_rule (codes "sample"))) (optional_rule (codes "seed"))

-- the same with `[--check LIST] [--always EXPR] [--trace FILE] [--format FORMAT] [--brief]`
abbrev pub explore_app : App
explore_app =
    with_rule (with_rule (with_rule (with_rule (with_rule explore_by_search_app
    (optional_rule (codes "check"))) (optional_rule (codes "always")))
    (optional_rule (codes "trace"))) format_rule) (flag_rule (codes "brief"))

-- `FILE..`, one or more words of their own
abbrev pub files_rule : Rule
files_rule =
    record (new_rule (codes "files")) { value_names = 1; required = true; action = Some Append }

-- `together FILE..`
abbrev pub together_app : App
together_app = with_rule (new_app (codes "together")) files_rule

-- the command line with no command in it yet; its version is that of each command
abbrev pub bare_app : App
bare_app = let new = new_app (codes "roundc") in record new {
  top = record new.top {
    no_binary_name = true;
    subcommand_required = true;
    propagate_version = true;
    has_version = true;
  };
}

-- the whole command line
abbrev pub roundc_app : App
roundc_app = with_subcommand (with_subcommand (with_subcommand (with_subcommand (with_subcommand
    (with_subcommand (with_subcommand (with_subcommand (with_subcommand (with_subcommand
    (with_subcommand bare_app check_app.top) show_app.top) run_app.top) draw_app.top)
    threads_app.top) judge_app.top)
    lockstep_app.top) realise_app.top) rounds_app.top) explore_app.top) together_app.top

-- what a parse reads of the command is this, and none of its arguments is global
abbrev pub IsCommandOf : App → Command → Type 0
IsCommandOf app c = (app_of c ≡ app) × ((out-Command c).has_globals ≡ false)
