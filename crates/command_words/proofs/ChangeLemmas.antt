-- The loops over the values of `--stop` and `--delay`.
use Rattle.std.proofs.Common.{◌≡◌, ◌≢◌, ◌∙◌, ◌++◌, ◌<◌, ◌+◌, ℕ, List, [], ◌∷◌, ap, arith, length}
use Rattle.std.proofs.Common.{refl, subst, sym, map, Bor, get_or, zero, suc, option_map, Option}
use Rattle.std.proofs.Common.{None, Some}
use Rattle.std.specs.Prelude.{codes, unwrap_or}
use Rattle.std.proofs.lemmas.List.{append_assoc, length-append}
use Rattle.clap.specs.Words.{Row, Text, found_of, matched_of, raw_values, rows_of}
use Rattle.clap.specs.declared.parser.matches.ArgMatches.{ArgMatches}
use Rattle.clap.proofs.WalkLemmas.{raw_values-rows}
use Rattle.command_words.specs.Changes.{FailsAs, FailsByDelays, FailsByStops, GivesDelays}
use Rattle.command_words.specs.Changes.{GivesStops, IsNoDelays, IsNoStops, numbers_of_delays}
use Rattle.command_words.specs.Changes.{numbers_of_stops, values_of}
use Rattle.command_words.specs.Values.{AreNumbers, NumberText}
use Rattle.command_words.specs.declared.changes.NodeStop.{NodeStop}
use Rattle.command_words.specs.declared.changes.OwnDelay.{OwnDelay}
use Rattle.command_words.specs.declared.words.WordsFault.{WordsFault}
use Rattle.command_words.specs.declared.words.WordsFault.TheVariants as fault

-- another cause of the same fault
pub fails_weaker : (A B : Type 0) (e : WordsFault) → (A → B) → FailsAs A e → FailsAs B e
fails_weaker A B (fault.Refused e) so h = h
fails_weaker A B fault.Missing so h = h
fails_weaker A B fault.Source so h = h
fails_weaker A B fault.List so h = h
fails_weaker A B fault.Delta so h = h
fails_weaker A B fault.Gst so h = h
fails_weaker A B fault.Ticks so h = h
fails_weaker A B fault.Change so h = so h
fails_weaker A B fault.Inputs so h = h
fails_weaker A B fault.Faults so h = h
fails_weaker A B fault.Clear so h = h
fails_weaker A B fault.Hears so h = h
fails_weaker A B fault.Checks so h = h
fails_weaker A B fault.Part so h = h
fails_weaker A B fault.Jobs so h = h
fails_weaker A B fault.Sample so h = h
fails_weaker A B fault.Seed so h = h
fails_weaker A B fault.Range so h = h
fails_weaker A B fault.Format so h = h
fails_weaker A B fault.AnswerFormat so h = h
fails_weaker A B fault.Blocks so h = h
fails_weaker A B fault.InputTwice so h = h
fails_weaker A B fault.NoMemory so h = h

-- a member of the texts behind references
pub text_at : (ts : List (Bor Text)) (i : ℕ) (d : Bor Text) → i < length ts
    → (get_or ts i d).now ≡ get_or (map (λ (s : Bor Text). s.now) ts) i (get_or ts i d).now
text_at [] i d lt = absurd (omega (arith, lt))
text_at (t ∷ ts) zero d lt = refl
text_at (t ∷ ts) (suc i) d lt = text_at ts i d (omega (arith, lt))

pub length-texts : (ts : List (Bor Text)) → length (map (λ (s : Bor Text). s.now) ts) ≡ length ts
length-texts [] = refl
length-texts (t ∷ ts) = ap suc (length-texts ts)

-- the texts of numbers are those of one list of them
pub same_number : (text : Text) (m n : ℕ) → NumberText text m → NumberText text n → m ≡ n
same_number text m n h also = h.value ∙ sym also.value

pub same_numbers : (texts : List Text) (ms ns : List ℕ) → AreNumbers texts ms
    → AreNumbers texts ns → ms ≡ ns
same_numbers [] [] [] h also = refl
same_numbers [] [] (n ∷ ns) h also = absurd also
same_numbers [] (m ∷ ms) ns h also = absurd h
same_numbers (text ∷ texts) [] ns h also = absurd h
same_numbers (text ∷ texts) (m ∷ ms) [] h also = absurd also
same_numbers (text ∷ texts) (m ∷ ms) (n ∷ ns) h also =
    rw (same_number text m n h.0 also.0) (ap (λ xs. n ∷ xs) (same_numbers texts ms ns h.1 also.1))

-- all values of an option, as `get_strs` gives them
abbrev texts_in : Option (Bor (List (Bor Text))) → List Text
texts_in r = unwrap_or (option_map (λ s. map (λ (v : Bor Text). v.now) s.now) r) []

pub values_in : (m : ArgMatches) (id : Text) (r : Option (Bor (List (Bor Text))))
    → option_map (λ s. map (λ (v : Bor Text). v.now) s.now) r
    ≡ option_map raw_values (matched_of (found_of m) id)
    → values_of id (rows_of (found_of m)) ≡ texts_in r
values_in m id r is = ap (λ o. unwrap_or o []) (sym (is ∙ raw_values-rows (found_of m) id))

pub some_values : (m : ArgMatches) (id : Text) (r : Option (Bor (List (Bor Text))))
    (texts : Bor (List (Bor Text)))
    → option_map (λ s. map (λ (v : Bor Text). v.now) s.now) r
    ≡ option_map raw_values (matched_of (found_of m) id) → r ≡ Some texts
    → map (λ (v : Bor Text). v.now) texts.now ≡ values_of id (rows_of (found_of m))
some_values m id r texts is some = sym (values_in m id r is ∙ ap texts_in some)

pub no_values : (m : ArgMatches) (id : Text) (r : Option (Bor (List (Bor Text))))
    → option_map (λ s. map (λ (v : Bor Text). v.now) s.now) r
    ≡ option_map raw_values (matched_of (found_of m) id) → r ≡ None
    → [] ≡ values_of id (rows_of (found_of m))
no_values m id r is none = sym (values_in m id r is ∙ ap texts_in none)

-- ---- stops

stops_push : (stops : List NodeStop) (stop : NodeStop) → numbers_of_stops (stops ++ stop ∷ [])
    ≡ numbers_of_stops stops ++ stop.node ∷ stop.tick ∷ []
stops_push [] stop = refl
stops_push (s ∷ stops) stop = ap (λ ns. s.node ∷ s.tick ∷ ns) (stops_push stops stop)

pub stop_more : (stops : List NodeStop) (stop : NodeStop) (rest more numbers : List ℕ)
    → rest ≡ stop.node ∷ stop.tick ∷ more → (numbers_of_stops stops ++ rest) ≡ numbers
    → (numbers_of_stops (stops ++ stop ∷ []) ++ more) ≡ numbers
stop_more stops stop rest more numbers is so_far =
    ap (λ ns. ns ++ more) (stops_push stops stop)
    ∙ append_assoc (numbers_of_stops stops) (stop.node ∷ stop.tick ∷ []) more
    ∙ ap (λ ns. numbers_of_stops stops ++ ns) (sym is) ∙ so_far

length-stops : (stops : List NodeStop) → length (numbers_of_stops stops)
    ≡ length stops + length stops
length-stops [] = refl
length-stops (s ∷ stops) = let h = length-stops stops in omega (arith, h)

-- fewer numbers than a stop has are left over, so these are no stops'
pub stops_uneven : (stops : List NodeStop) (rest numbers : List ℕ)
    → (numbers_of_stops stops ++ rest) ≡ numbers → 0 < length rest → length rest < 2
    → (others : List NodeStop) → numbers_of_stops others ≢ numbers
stops_uneven stops rest numbers so_far some few others is =
    let sum : length (numbers_of_stops stops) + length rest ≡ length (numbers_of_stops others) =
    sym (length-append (numbers_of_stops stops) rest) ∙ ap length (so_far ∙ sym is) in
    let left = length-stops stops in
    let right = length-stops others in
    absurd (omega (arith, sum, left, right, some, few))

-- ---- delays

delays_push : (delays : List OwnDelay) (d : OwnDelay) → numbers_of_delays (delays ++ d ∷ [])
    ≡ numbers_of_delays delays ++ d.sender ∷ d.receiver ∷ d.round ∷ d.delay ∷ []
delays_push [] d = refl
delays_push (e ∷ delays) d =
    ap (λ ns. e.sender ∷ e.receiver ∷ e.round ∷ e.delay ∷ ns) (delays_push delays d)

pub delay_more : (delays : List OwnDelay) (d : OwnDelay) (rest more numbers : List ℕ)
    → rest ≡ d.sender ∷ d.receiver ∷ d.round ∷ d.delay ∷ more
    → (numbers_of_delays delays ++ rest) ≡ numbers
    → (numbers_of_delays (delays ++ d ∷ []) ++ more) ≡ numbers
delay_more delays d rest more numbers is so_far =
    ap (λ ns. ns ++ more) (delays_push delays d)
    ∙ append_assoc (numbers_of_delays delays)
    (d.sender ∷ d.receiver ∷ d.round ∷ d.delay ∷ []) more
    ∙ ap (λ ns. numbers_of_delays delays ++ ns) (sym is) ∙ so_far

length-delays : (delays : List OwnDelay) → length (numbers_of_delays delays)
    ≡ length delays + length delays + length delays + length delays
length-delays [] = refl
length-delays (d ∷ delays) = let h = length-delays delays in omega (arith, h)

pub delays_uneven : (delays : List OwnDelay) (rest numbers : List ℕ)
    → (numbers_of_delays delays ++ rest) ≡ numbers → 0 < length rest → length rest < 4
    → (others : List OwnDelay) → numbers_of_delays others ≢ numbers
delays_uneven delays rest numbers so_far some few others is =
    let sum : length (numbers_of_delays delays) + length rest ≡ length (numbers_of_delays others) =
    sym (length-append (numbers_of_delays delays) rest) ∙ ap length (so_far ∙ sym is) in
    let left = length-delays delays in
    let right = length-delays others in
    absurd (omega (arith, sum, left, right, some, few))

-- ---- the options

pub stops_given : (rows : List Row) (numbers : List ℕ) (stops : List NodeStop)
    → AreNumbers (values_of (codes "stop") rows) numbers → numbers_of_stops stops ≡ numbers
    → GivesStops rows stops
stops_given rows numbers stops read is =
    subst (AreNumbers (values_of (codes "stop") rows)) (sym is) read

pub no_stops_read : (rows : List Row) (numbers : List ℕ) (e : WordsFault)
    → AreNumbers (values_of (codes "stop") rows) numbers → IsNoStops numbers e
    → FailsByStops rows e
no_stops_read rows numbers e read none =
    fails_weaker ((stops : List NodeStop) → numbers_of_stops stops ≢ numbers)
    ((stops : List NodeStop) → ¬ (GivesStops rows stops)) e
    (λ no stops h. no stops
    (same_numbers (values_of (codes "stop") rows) (numbers_of_stops stops) numbers h read)) none

pub delays_given : (rows : List Row) (numbers : List ℕ) (delays : List OwnDelay)
    → AreNumbers (values_of (codes "delay") rows) numbers → numbers_of_delays delays ≡ numbers
    → GivesDelays rows delays
delays_given rows numbers delays read is =
    subst (AreNumbers (values_of (codes "delay") rows)) (sym is) read

pub no_delays_read : (rows : List Row) (numbers : List ℕ) (e : WordsFault)
    → AreNumbers (values_of (codes "delay") rows) numbers → IsNoDelays numbers e
    → FailsByDelays rows e
no_delays_read rows numbers e read none =
    fails_weaker ((delays : List OwnDelay) → numbers_of_delays delays ≢ numbers)
    ((delays : List OwnDelay) → ¬ (GivesDelays rows delays)) e
    (λ no delays h. no delays
    (same_numbers (values_of (codes "delay") rows) (numbers_of_delays delays) numbers h read)) none
