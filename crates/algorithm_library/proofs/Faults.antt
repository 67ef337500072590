-- What a fault is where nothing is wrong with the text.
use Rattle.std.proofs.Common.{◌≡◌, ◌≢◌, refl}
use Rattle.round_lang.specs.declared.fault.LangFault.{LangFault}
use Rattle.round_lang.specs.declared.fault.LangFault.TheVariants.{BadToken, Unexpected, TooDeep}
use Rattle.round_lang.specs.declared.fault.LangFault.TheVariants.{TooLong, LimitPassed, NoMemory}

pub memory_alone : (e : LangFault) → (e ≢ NoMemory → e ≢ TooLong → ⊥) → e ≢ TooLong → e ≡ NoMemory
memory_alone (BadToken span) h k = absurd (h (λ e. absurd (cc)) (λ e. absurd (cc)))
memory_alone (Unexpected span) h k = absurd (h (λ e. absurd (cc)) (λ e. absurd (cc)))
memory_alone TooDeep h k = absurd (h (λ e. absurd (cc)) (λ e. absurd (cc)))
memory_alone TooLong h k = absurd (k refl)
memory_alone (LimitPassed span) h k = absurd (h (λ e. absurd (cc)) (λ e. absurd (cc)))
memory_alone NoMemory h k = refl
