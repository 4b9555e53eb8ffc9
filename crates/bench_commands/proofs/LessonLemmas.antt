-- Which causes a certificate is not learnt for, by the run.
use Rattle.std.proofs.Common.{◌≡◌, ◌<◌, ◌≤◌, ℕ, inl, inr, List, Option, None, Some, length, refl, sym, subst, arith}
use Rattle.std.specs.Prelude.{IfSome}
use Rattle.bench_edges.specs.declared.words.Command.{Command}
use Rattle.bench_edges.specs.declared.words.Command.TheVariants.{Learn}
use Rattle.journal_lessons.specs.declared.refusals.LearnRefusal.{LearnRefusal}
use Rattle.opening_report.specs.declared.refusals.Refusal.{Refusal}
use Rattle.opening_report.specs.declared.refusals.Refusal.TheVariants as refusal
use Rattle.program_edges.specs.Sources.{IsCutShort, IsInput}
use Rattle.bench_commands.specs.Accepted.{HasLessonCause, Teaches}
use Rattle.bench_commands.specs.Commands.{source_limit}

module _ (file : List ℕ) (P : LearnRefusal → Type 0) where
  -- of the bytes that were read, and so of those that the source tells
  told_teaches : (source : Option (List ℕ)) (bytes : List ℕ) → IfSome source (λ told. bytes ≡ told) → ((cause : LearnRefusal) → HasLessonCause Learn bytes file cause → P cause) → Teaches Learn source file P
  told_teaches None bytes same each = tt
  told_teaches (Some told) bytes same each = λ fits cause stands. each cause (subst (λ (t : List ℕ). HasLessonCause Learn t file cause) (sym same) stands)

  no_lesson : (command : Command) (source : Option (List ℕ)) → ((told : List ℕ) (cause : LearnRefusal) → HasLessonCause command told file cause → ⊥) → Teaches command source file P
  no_lesson command None none = tt
  no_lesson command (Some told) none = λ fits cause stands. absurd (none told cause stands)

  pub bytes_teach : (command : Command) (source : Option (List ℕ)) (bytes : List ℕ) → IsInput (source_limit command) source bytes → ((cause : LearnRefusal) → HasLessonCause command bytes file cause → P cause)
      → Teaches command source file P
  bytes_teach Learn source bytes input each = told_teaches source bytes (input.same refl) each
  bytes_teach command source bytes input each = no_lesson command source (λ told cause stands. stands)

  -- of a source of which the reading is cut short: it was not too long
  cut_teaches : (source rest : Option (List ℕ)) (before after : ℕ) (r : Refusal) → IsCutShort (source_limit Learn) source rest before after r
      → (r ≡ refusal.Memory → (cause : LearnRefusal) → P cause) → (r ≡ refusal.Read → (cause : LearnRefusal) → P cause) → Teaches Learn source file P
  cut_teaches None rest before after r cut memory read = tt
  cut_teaches (Some told) rest before after r (inl is) memory read = λ fits cause stands. memory is cause
  cut_teaches (Some told) rest before after r (inr (inl is)) memory read = λ fits cause stands. read is.0 cause
  cut_teaches (Some told) rest before after r (inr (inr long)) memory read = λ fits cause stands.
      let most : length told ≤ long.1.most = subst (λ (o : Option ℕ). IfSome o (λ limit. length told ≤ limit)) long.1.is_limit fits in
      let more : long.1.most < length told = long.1.long in
      absurd (omega (arith, most, more))

  pub cut_teach : (command : Command) (source rest : Option (List ℕ)) (before after : ℕ) (r : Refusal) → IsCutShort (source_limit command) source rest before after r
      → (r ≡ refusal.Memory → (cause : LearnRefusal) → P cause) → (r ≡ refusal.Read → (cause : LearnRefusal) → P cause) → Teaches command source file P
  cut_teach Learn source rest before after r cut memory read = cut_teaches source rest before after r cut memory read
  cut_teach command source rest before after r cut memory read = no_lesson command source (λ told cause stands. stands)
