-- Command lines written out: `clap`'s definition takes them, and gives these values.
use Rattle.std.proofs.Common.{◌≡◌, refl, codes, true, option_map, None, Some, List, [], ◌∷◌}
use Rattle.clap.specs.Words.{Text, all_of, fault_of, first_of, subcommand_of, takes}
use Rattle.clap.specs.declared.error.kind.ErrorKind.TheVariants as kind
use Rattle.clap.proofs.OnLiterals.{clap_on_literals}
use Rattle.command_words.specs.Changes.{values_of}
use Rattle.command_words.specs.Commands.{roundc_app}

abbrev run_row : List Text
run_row = codes "run" ∷ codes "@gather:2" ∷ codes "--schedule" ∷ codes "-" ∷ []

run_taken : takes roundc_app run_row ≡ true
unfolding clap_on_literals
run_taken = refl

run_schedule : option_map (λ p. first_of (codes "schedule") p.1) (subcommand_of roundc_app run_row)
    ≡ Some (Some (codes "-"))
unfolding clap_on_literals
run_schedule = refl

abbrev form_row : List Text
form_row = codes "run" ∷ codes "a" ∷ codes "--schedule" ∷ codes "b" ∷ codes "--format" ∷ codes
    "table" ∷ codes "--changed" ∷ codes "--by=node" ∷ codes "--vars" ∷ codes "x,y" ∷ []

form_taken : takes roundc_app form_row ≡ true
unfolding clap_on_literals
form_taken = refl

form_vars : option_map (λ p. first_of (codes "vars") p.1) (subcommand_of roundc_app form_row)
    ≡ Some (Some (codes "x,y"))
unfolding clap_on_literals
form_vars = refl

form_by : option_map (λ p. first_of (codes "by") p.1) (subcommand_of roundc_app form_row)
    ≡ Some (Some (codes "node"))
unfolding clap_on_literals
form_by = refl

abbrev together_row : List Text
together_row = codes "together" ∷ codes "a" ∷ codes "-" ∷ codes "b" ∷ []

together_taken : takes roundc_app together_row ≡ true
unfolding clap_on_literals
together_taken = refl

together_files : option_map (λ p. all_of (codes "files") p.1)
    (subcommand_of roundc_app together_row) ≡ Some (Some (codes "a" ∷ codes "-" ∷ codes "b" ∷ []))
unfolding clap_on_literals
together_files = refl

abbrev parts_row : List Text
parts_row = codes "explore" ∷ codes "a" ∷ codes "--header" ∷ codes "b" ∷ codes "--part" ∷ codes
    "2/8" ∷ codes "--jobs=4" ∷ codes "--inputs" ∷ codes "any" ∷ []

parts_part : option_map (λ p. first_of (codes "part") p.1) (subcommand_of roundc_app parts_row)
    ≡ Some (Some (codes "2/8"))
unfolding clap_on_literals
parts_part = refl

help_refused : fault_of roundc_app (codes "run" ∷ codes "--help" ∷ []) ≡ kind.DisplayHelp ∷ []
unfolding clap_on_literals
help_refused = refl

missing_refused : fault_of roundc_app (codes "run" ∷ codes "@gather:2" ∷ [])
    ≡ kind.MissingRequiredArgument ∷ []
unfolding clap_on_literals
missing_refused = refl

abbrev threads_row : List Text
threads_row = codes "threads" ∷ codes "a" ∷ codes "--trace" ∷ codes "b" ∷ codes "--decided" ∷ codes
    "--setup" ∷ codes "-" ∷ []

threads_taken : takes roundc_app threads_row ≡ true
unfolding clap_on_literals
threads_taken = refl

threads_setup : option_map (λ p. first_of (codes "setup") p.1)
    (subcommand_of roundc_app threads_row) ≡ Some (Some (codes "-"))
unfolding clap_on_literals
threads_setup = refl

threads_trace : option_map (λ p. first_of (codes "trace") p.1)
    (subcommand_of roundc_app threads_row) ≡ Some (Some (codes "b"))
unfolding clap_on_literals
threads_trace = refl

threads_decided : option_map (λ p. first_of (codes "decided") p.1)
    (subcommand_of roundc_app threads_row) ≡ Some (Some (codes "true"))
unfolding clap_on_literals
threads_decided = refl

no_trace_refused : fault_of roundc_app
    (codes "threads" ∷ codes "a" ∷ codes "--setup" ∷ codes "b" ∷ []) ≡ kind.MissingRequiredArgument
    ∷ []
unfolding clap_on_literals
no_trace_refused = refl

abbrev judge_row : List Text
judge_row =
    codes "judge" ∷ codes "a" ∷ codes "--gst" ∷ codes "7" ∷ codes "--schedule" ∷ codes "b" ∷ codes
    "--delta" ∷ codes "1"
    ∷ codes "--correct" ∷ codes "0,2" ∷ []

judge_taken : takes roundc_app judge_row ≡ true
unfolding clap_on_literals
judge_taken = refl

judge_gst : option_map (λ p. first_of (codes "gst") p.1) (subcommand_of roundc_app judge_row)
    ≡ Some (Some (codes "7"))
unfolding clap_on_literals
judge_gst = refl

abbrev lockstep_row : List Text
lockstep_row =
    codes "lockstep" ∷ codes "a" ∷ codes "--header" ∷ codes "b" ∷ codes "--correct" ∷ codes "0,1" ∷
    codes "--delta" ∷ codes "2"
    ∷ codes "--gst" ∷ codes "3" ∷ codes "--ticks" ∷ codes "9" ∷ []

lockstep_taken : takes roundc_app lockstep_row ≡ true
unfolding clap_on_literals
lockstep_taken = refl

lockstep_ticks : option_map (λ p. first_of (codes "ticks") p.1)
    (subcommand_of roundc_app lockstep_row) ≡ Some (Some (codes "9"))
unfolding clap_on_literals
lockstep_ticks = refl

lockstep_delays : option_map (λ p. first_of (codes "delays") p.1)
    (subcommand_of roundc_app lockstep_row) ≡ Some None
unfolding clap_on_literals
lockstep_delays = refl

check_format : option_map (λ p. first_of (codes "format") p.1)
    (subcommand_of roundc_app (codes "check" ∷ codes "--format=json" ∷ codes "a" ∷ []))
    ≡ Some (Some (codes "json"))
unfolding clap_on_literals
check_format = refl

check_taken : takes roundc_app (codes "check" ∷ codes "a" ∷ []) ≡ true
unfolding clap_on_literals
check_taken = refl

abbrev rounds_row : List Text
rounds_row = codes "rounds" ∷ codes "a" ∷ codes "--omissions" ∷ codes "b" ∷ codes "--decided" ∷
    codes "--header" ∷ codes "-" ∷ []

rounds_taken : takes roundc_app rounds_row ≡ true
unfolding clap_on_literals
rounds_taken = refl

rounds_omissions : option_map (λ p. first_of (codes "omissions") p.1)
    (subcommand_of roundc_app rounds_row) ≡ Some (Some (codes "b"))
unfolding clap_on_literals
rounds_omissions = refl

rounds_decided : option_map (λ p. first_of (codes "decided") p.1)
    (subcommand_of roundc_app rounds_row) ≡ Some (Some (codes "true"))
unfolding clap_on_literals
rounds_decided = refl

realise_taken : takes roundc_app
    (codes "realise" ∷ codes "a" ∷ codes "--header" ∷ codes "b" ∷ codes "--omissions" ∷ codes "-" ∷
    []) ≡ true
unfolding clap_on_literals
realise_taken = refl

no_omissions_refused : fault_of roundc_app
    (codes "realise" ∷ codes "a" ∷ codes "--header" ∷ codes "b" ∷ []) ≡ kind.MissingRequiredArgument
    ∷ []
unfolding clap_on_literals
no_omissions_refused = refl

no_flag_refused : fault_of roundc_app
    (codes "realise" ∷ codes "a" ∷ codes "--header" ∷ codes "b" ∷ codes "--omissions" ∷ codes "c" ∷
    codes "--decided" ∷ []) ≡ kind.UnknownArgument ∷ []
unfolding clap_on_literals
no_flag_refused = refl

abbrev changed_row : List Text
changed_row = codes "lockstep" ∷ codes "a" ∷ codes "--header" ∷ codes "b" ∷ codes "--correct" ∷
    codes "0" ∷ codes "--stop" ∷ codes "1" ∷ codes "2" ∷ codes "--delta" ∷ codes "2" ∷ codes "--gst"
    ∷ codes "3" ∷ codes "--stop" ∷ codes "2" ∷ codes "0" ∷ codes "--omissions" ∷ codes "-" ∷ []

changed_taken : takes roundc_app changed_row ≡ true
unfolding clap_on_literals
changed_taken = refl

changed_stops : option_map (λ p. values_of (codes "stop") p.1)
    (subcommand_of roundc_app changed_row)
    ≡ Some (codes "1" ∷ codes "2" ∷ codes "2" ∷ codes "0" ∷ [])
unfolding clap_on_literals
changed_stops = refl

changed_omissions : option_map (λ p. first_of (codes "omissions") p.1)
    (subcommand_of roundc_app changed_row) ≡ Some (Some (codes "-"))
unfolding clap_on_literals
changed_omissions = refl

changed_delays : option_map (λ p. values_of (codes "delay") p.1)
    (subcommand_of roundc_app changed_row) ≡ Some []
unfolding clap_on_literals
changed_delays = refl

short_stop_refused : fault_of roundc_app
    (codes "lockstep" ∷ codes "a" ∷ codes "--header" ∷ codes "b" ∷ codes "--correct" ∷ codes "0" ∷
    codes "--delta" ∷ codes "2" ∷ codes "--gst" ∷ codes "3" ∷ codes "--stop" ∷ codes "1" ∷ [])
    ≡ kind.WrongNumberOfValues ∷ []
unfolding clap_on_literals
short_stop_refused = refl
