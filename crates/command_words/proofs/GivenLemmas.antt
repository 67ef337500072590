-- From what the matches' calls answer to what the words give.
use Rattle.std.proofs.Common.{◌≡◌, ◌∙◌, ap, List, Option, Some, None, Result, Ok, Err, Bool, true}
use Rattle.std.proofs.Common.{false, ap₂, sym, refl, option_map, is_some, Bor, [], ◌∷◌, ◌⊎◌, inl}
use Rattle.std.proofs.Common.{inr, subst}
use Rattle.std.specs.Prelude.{◌↔◌, Box, IfOk, IsTrue, OnErr, OnOk}
use Rattle.std.specs.Option.{ok_or}
use Rattle.std.specs.Box.{box_value}
use Rattle.std.specs.Str.{bytes_eq}
use Rattle.std.proofs.lemmas.Slice.Eq.{bytes_eq-Decides}
use Rattle.std.proofs.lemmas.Option.{same_Some}
use Rattle.clap.specs.Simple.{subcommand_rows}
use Rattle.clap.specs.Kinds.{or_else}
use Rattle.clap.specs.Faults.{check_fault, defaults_fault, entered_fault, level_fault, settle_fault}
use Rattle.clap.specs.Faults.{walk_fault}
use Rattle.clap.specs.Walk.{Held, Names, finished, nothing_held, settled, walk, walk_from}
use Rattle.clap.specs.Simple.{Shape, argument_words, entered, names_of}
use Rattle.clap.specs.declared.error.Error.{Error}
use Rattle.clap.specs.declared.error.kind.ErrorKind.TheVariants.{OutOfMemory}
use Rattle.clap.specs.Words.{IsAmong, Kinds, built, kind_of, subcommand_of, fault_of, Row, Text}
use Rattle.clap.specs.Words.{first_of, first_value, found_of, is_simple, is_simple_and_free}
use Rattle.clap.specs.Words.{rows_of, subcommand_name_of, subcommand_rows_of}
use Rattle.clap.specs.declared.parser.matches.ArgMatches.{ArgMatches}
use Rattle.clap.specs.declared.parser.matches.ArgMatches.TheViews.{out-ArgMatches, out-SubCommand}
use Rattle.clap.specs.declared.parser.matches.SubCommand.{SubCommand}
use Rattle.clap.proofs.WalkLemmas.{first_value-rows}
use Rattle.command_words.specs.Commands.{roundc_app}
use Rattle.command_words.specs.Given.{Explains, FailsByCheck, FailsByLockstep}
use Rattle.command_words.specs.Given.{FailsByOmissions, FailsByReport, FailsByRounds, FailsByRun}
use Rattle.command_words.specs.Given.{FailsByTerms, FailsByValue, IsMistake}
use Rattle.command_words.specs.declared.words.WordsFault.{WordsFault}
use Rattle.command_words.specs.declared.words.WordsFault.TheVariants as fault

-- no argument of the program has a rule on another, and each is simple
pub roundc_is_simple : is_simple roundc_app ≡ true
roundc_is_simple = refl

pub roundc_is_free : is_simple_and_free roundc_app ≡ true
roundc_is_free = refl

-- a pair by its parts
pub pair_given : (o : Option (Text × List Row)) (name : Text) (rows : List Row)
    → option_map (λ p. p.0) o ≡ Some name
    → option_map (λ p. p.1) o ≡ Some rows → o ≡ Some (name, rows)
pair_given None name rows is also = absurd (cc is)
pair_given (Some p) name rows is also =
    ap₂ (λ n r. Some (n, r)) (same_Some _ _ is) (same_Some _ _ also)

module _ {Z : Type 0} where
  name_in : (o : Option (Box SubCommand Z)) → option_map (λ p. p.0) (subcommand_rows o)
      ≡ option_map (λ b. (out-SubCommand (box_value b)).name.now) o
  name_in None = refl
  name_in (Some b) = refl

-- the name of the subcommand that a parse entered
pub name_given : (m : ArgMatches) → option_map (λ p. p.0) (subcommand_rows_of m)
    ≡ subcommand_name_of m
name_given m = name_in (out-ArgMatches m).subcommand

-- what the matches' calls read, as the rows have it
pub text_in : (m : ArgMatches) (id : Text) (r : Option (Bor Text))
    → option_map (λ s. s.now) r ≡ first_value (found_of m) id
    → first_of id (rows_of (found_of m)) ≡ option_map (λ s. s.now) r
text_in m id r is = sym (is ∙ first_value-rows (found_of m) id)

-- `ok_or` after `get_str`, as the rows have it
pub text_found : {E : Type 0} (o : Option Text) (r : Option (Bor Text)) (e : E)
    → o ≡ option_map (λ s. s.now) r → IfOk (ok_or r e) (λ t. o ≡ Some t.now)
text_found o None e same = tt
text_found o (Some t) e same = same

pub text_missing : {E : Type 0} (o : Option Text) (r : Option (Bor Text)) (e : E)
    → o ≡ option_map (λ s. s.now) r → OnErr (ok_or r e) (o ≡ None)
text_missing o None e same = same
text_missing o (Some t) e same = tt

-- a test of an argument's text tells whether the argument has that text
pub flag_given : (o : Option Text) (text t : Text) (b : Bool) → o ≡ Some text → b ≡ bytes_eq text t
    → IsTrue b ↔ (o ≡ Some t)
flag_given o text t b is tested = (
  (λ yes. is ∙ ap (λ x. Some x) ((bytes_eq-Decides text t).0 (sym tested ∙ yes))),
  (λ same. tested ∙ (bytes_eq-Decides text t).1 (same_Some _ _ (sym is ∙ same))),
)

pub no_flag_given : (o : Option Text) (t : Text) → o ≡ None → IsTrue false ↔ (o ≡ Some t)
no_flag_given o t is =
    ((λ h. absurd (cc h)), (λ same. let bad : None ≡ Some t = sym is ∙ same in absurd (cc bad)))

pub ok_always : {T E P : Type 0} (r : Result T E) → P → OnOk r P
ok_always (Ok x) p = p
ok_always (Err e) p = tt

-- no value of a command has a fault that `clap` tells
by_no_check : (rows : List Row) (e : Error) → ¬ (FailsByCheck rows (fault.Refused e))
by_no_check rows e h = elim h [ inl source ↦ source | inr format ↦ format ]

by_no_run : (rows : List Row) (e : Error) → ¬ (FailsByRun rows (fault.Refused e))
by_no_run rows e h = elim h [ inl source ↦ source | inr file ↦ file ]

by_no_report : (rows : List Row) (e : Error) → ¬ (FailsByReport rows (fault.Refused e))
by_no_report rows e h = elim h [ inl run ↦ by_no_run rows e run | inr form ↦ form ]

by_no_terms : (rows : List Row) (e : Error) → ¬ (FailsByTerms rows (fault.Refused e))
by_no_terms rows e h =
    elim h [ inl list ↦ list | inr value ↦ elim value [ inl delta ↦ delta | inr gst ↦ gst ] ]

by_no_omissions : (rows : List Row) (e : Error) → ¬ (FailsByOmissions rows (fault.Refused e))
by_no_omissions rows e h = elim h [
  | inl source ↦ source
  | inr file ↦ elim file [
    | inl header ↦ header
    | inr more ↦ elim more [ inl omissions ↦ omissions | inr inputs ↦ inputs ]
  ]
]

by_no_rounds : (rows : List Row) (e : Error) → ¬ (FailsByRounds rows (fault.Refused e))
by_no_rounds rows e h = elim h [ inl named ↦ by_no_omissions rows e named | inr form ↦ form ]

by_no_lockstep : (rows : List Row) (e : Error) → ¬ (FailsByLockstep rows (fault.Refused e))
by_no_lockstep rows e h = elim h [
  | inl source ↦ source
  | inr more ↦ elim more [
    | inl file ↦ file
    | inr more ↦ elim more [
      | inl terms ↦ by_no_terms rows e terms
      | inr more ↦ elim more [
        | inl delays ↦ delays
        | inr more ↦ elim more [
          | inl orders ↦ orders
          | inr more ↦ elim more [
            | inl ticks ↦ ticks
            | inr more ↦ elim more [
              | inl changes ↦ elim changes [ inl stops ↦ stops | inr delays ↦ delays ]
              | inr inputs ↦ inputs
            ]
          ]
        ]
      ]
    ]
  ]
]

-- what the command lacks explains the fault, where `clap` found no mistake
pub lack_explained : (words : List Text) (name : Text) (rows : List Row) (e : WordsFault)
    → fault_of roundc_app words ≡ []
    → subcommand_of roundc_app words ≡ Some (name, rows) → FailsByValue name rows e
    → Explains words e
lack_explained words name rows (fault.Refused e) none is lack = absurd (elim lack [
  | inl alone ↦ elim alone [ inl check ↦ by_no_check rows e check.1 | inr show ↦ show.1 ]
  | inr more ↦ elim more [
    | inl schedule ↦ elim schedule [
      | inl run ↦ by_no_report rows e run.1
      | inr draw ↦ elim draw.1 [
        | inl run ↦ by_no_run rows e run
        | inr drawing ↦ elim drawing [ inl range ↦ range | inr nodes ↦ nodes ]
      ]
    ]
    | inr more ↦ elim more [
      | inl threads ↦ elim threads.1
          [ inl source ↦ source | inr file ↦ elim file [ inl setup ↦ setup | inr trace ↦ trace ] ]
      | inr more ↦ elim more [
        | inl judge ↦ elim judge.1 [
          | inl run ↦ by_no_run rows e run
          | inr more ↦ elim more [ inl terms ↦ by_no_terms rows e terms | inr format ↦ format ]
        ]
        | inr more ↦ elim more [
          | inl lockstep ↦ by_no_lockstep rows e lockstep.1
          | inr more ↦ elim more [
            | inl realise ↦ by_no_omissions rows e realise.1
            | inr more ↦ elim more [
              | inl rounds ↦ by_no_rounds rows e rounds.1
              | inr more ↦ elim more [
                | inl explore ↦ elim explore.1 [
                  | inl source ↦ source
                  | inr file ↦ elim file [
                    | inl header ↦ header
                    | inr more ↦ elim more [ inl exploring ↦ exploring | inr format ↦ format ]
                  ]
                ]
                | inr more ↦ elim more [ inl together ↦ together.1 | inr other ↦ cc (other.1) ]
              ]
            ]
          ]
        ]
      ]
    ]
  ]
])
lack_explained words name rows fault.Missing none is lack = (none, (name, rows, is, lack))
lack_explained words name rows fault.Source none is lack = (none, (name, rows, is, lack))
lack_explained words name rows fault.List none is lack = inl (none, (name, rows, is, lack))
lack_explained words name rows fault.Delta none is lack = inl (none, (name, rows, is, lack))
lack_explained words name rows fault.Gst none is lack = inl (none, (name, rows, is, lack))
lack_explained words name rows fault.Ticks none is lack = inl (none, (name, rows, is, lack))
lack_explained words name rows fault.Change none is lack = inl (none, (name, rows, is, lack))
lack_explained words name rows fault.Inputs none is lack = (none, (name, rows, is, lack))
lack_explained words name rows fault.Faults none is lack = (none, (name, rows, is, lack))
lack_explained words name rows fault.Clear none is lack = inl (none, (name, rows, is, lack))
lack_explained words name rows fault.Hears none is lack = inl (none, (name, rows, is, lack))
lack_explained words name rows fault.Checks none is lack = (none, (name, rows, is, lack))
lack_explained words name rows fault.Part none is lack = inl (none, (name, rows, is, lack))
lack_explained words name rows fault.Jobs none is lack = inl (none, (name, rows, is, lack))
lack_explained words name rows fault.Sample none is lack = inl (none, (name, rows, is, lack))
lack_explained words name rows fault.Seed none is lack = inl (none, (name, rows, is, lack))
lack_explained words name rows fault.Range none is lack = inl (none, (name, rows, is, lack))
lack_explained words name rows fault.Format none is lack = (none, (name, rows, is, lack))
lack_explained words name rows fault.AnswerFormat none is lack =
    (none, (name, rows, is, lack))
lack_explained words name rows fault.Blocks none is lack = (none, (name, rows, is, lack))
lack_explained words name rows fault.InputTwice none is lack = (none, (name, rows, is, lack))
lack_explained words name rows fault.NoMemory none is lack = tt

-- what the code makes of an error explains the refusal
pub mistake_explained : (words : List Text) (error : Error) (e : WordsFault)
    → (kind_of error ≡ OutOfMemory) ⊎ IsAmong (kind_of error) (fault_of roundc_app words)
    → IsMistake words error e → Explains words e
mistake_explained words error (fault.Refused e) (inl memory) is = absurd (is.1 memory)
mistake_explained words error (fault.Refused e) (inr among) is =
    subst (λ (k : Error). IsAmong (kind_of k) (fault_of roundc_app words)) (sym is.0) among
mistake_explained words error fault.Missing kinds is = absurd is
mistake_explained words error fault.Source kinds is = absurd is
mistake_explained words error fault.List kinds is = inr is
mistake_explained words error fault.Delta kinds is = inr is
mistake_explained words error fault.Gst kinds is = inr is
mistake_explained words error fault.Ticks kinds is = inr is
mistake_explained words error fault.Change kinds is = inr is
mistake_explained words error fault.Inputs kinds is = absurd is
mistake_explained words error fault.Faults kinds is = absurd is
mistake_explained words error fault.Clear kinds is = inr is
mistake_explained words error fault.Hears kinds is = inr is
mistake_explained words error fault.Checks kinds is = absurd is
mistake_explained words error fault.Part kinds is = inr is
mistake_explained words error fault.Jobs kinds is = inr is
mistake_explained words error fault.Sample kinds is = inr is
mistake_explained words error fault.Seed kinds is = inr is
mistake_explained words error fault.Range kinds is = inr is
mistake_explained words error fault.Format kinds is = absurd is
mistake_explained words error fault.AnswerFormat kinds is = absurd is
mistake_explained words error fault.Blocks kinds is = absurd is
mistake_explained words error fault.InputTwice kinds is = absurd is
mistake_explained words error fault.NoMemory kinds is = tt

or_else_right : (a b : Kinds) → or_else a b ≡ [] → b ≡ []
or_else_right [] b h = h
or_else_right (k ∷ ks) b h = absurd (cc h)

named : (rows : List Row) (has : Bool) → check_fault (built roundc_app).top rows has ≡ []
    → has ≡ true
named rows true h = refl
named rows false h = absurd (cc h)

last_check : (s : Shape) (names : Names) (h : Held) (words : List Text) (has : Bool) (below : Kinds)
    → level_fault s names h words has below ≡ []
    → check_fault s (finished s.rules (walk s.rules names h words).held) has ≡ []
last_check s names h words has below none =
    let end = (walk s.rules names h words).held in
    let last = check_fault s (finished s.rules end) has in
    let defaults = or_else (defaults_fault (settled s.rules end).rows s.rules) last in
    let settling = or_else (settle_fault s.rules s.args_override_self end) defaults in
    or_else_right (defaults_fault (settled s.rules end).rows s.rules) last
    (or_else_right (settle_fault s.rules s.args_override_self end) defaults
    (or_else_right below settling
    (or_else_right (walk_fault s names (walk_from h) words) (or_else below settling) none)))

-- if `clap` finds no mistake, the words name a command
pub command_named : (words : List Text) → fault_of roundc_app words ≡ []
    → is_some (subcommand_of roundc_app words) ≡ true
command_named words none =
    let a = built roundc_app in
    let ws = argument_words roundc_app words in
    let stop = (walk a.top.rules (names_of a) nothing_held ws).stopped in
    named (finished a.top.rules (walk a.top.rules (names_of a) nothing_held ws).held)
    (is_some (subcommand_of roundc_app words))
    (last_check a.top (names_of a) nothing_held ws (is_some (entered a stop)) (entered_fault a stop)
    none)
