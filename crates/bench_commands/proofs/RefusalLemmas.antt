-- What is answered, and what is not refused.
use Rattle.std.proofs.Common.{◌≡◌, ℕ, ◌≤◌, ◌⊎◌, inl, inr, List, Option, None, Some, refl, sym, subst, length}
use Rattle.std.specs.Prelude.{IfSome, IsSome}
use Rattle.bench_disk.specs.declared.disk.Disk.{Ghosts}
use Rattle.bench_edges.specs.declared.status.Status.{Status}
use Rattle.bench_edges.specs.declared.words.Command.{Command}
use Rattle.bench_edges.specs.declared.words.Command.TheVariants.{Solve, Verify, Learn, TableCheck}
use Rattle.certificate_text.specs.Text.{ReadsAs}
use Rattle.certificate_text.proofs.Exact.{one_certificate_read}
use Rattle.endgame_table.specs.Bytes.{bytes_of}
use Rattle.endgame_table.specs.Entries.{IsTable}
use Rattle.strategy_certificate.specs.Certificates.{IsGood}
use Rattle.strategy_certificate.specs.declared.certificates.Certificate.{Certificate}
use Rattle.opening_report.specs.declared.refusals.Refusal.{Refusal}
use Rattle.bench_commands.specs.Accepted.{IsGoodFor, HasRoomFor, IsUnrefused, Accepts, MayLearn}
use Rattle.program_edges.specs.Sources.{IsInput}
use Rattle.program_edges.specs.Statuses.{status_of}
use Rattle.bench_commands.specs.Commands.{source_limit}
use Rattle.bench_commands.specs.Steps.{AcceptsBytes}
use Rattle.bench_commands.specs.declared.commands.verify.TheConstants.{MOST_CERTIFICATE_BYTES}
use Rattle.bench_commands.proofs.TableLemmas.{table_is_short}

-- ---- what is accepted

-- a command reads a source, or no bytes are good for it
read_or_none : (command : Command) → IsSome (source_limit command) ⊎ ((told : List ℕ) → IsGoodFor command told → ⊥)
read_or_none (Solve options) = inl refl
read_or_none Verify = inl refl
read_or_none Learn = inl refl
read_or_none TableCheck = inl refl
read_or_none command = inr (λ told good. good)

module _ {D : Type 0} (g : Ghosts D) where
  accept_by : (command : Command) (source : Option (List ℕ)) (bytes : List ℕ) (old : D) (r : Refusal) → IsInput (source_limit command) source bytes → AcceptsBytes g command bytes old r
      → (IsSome (source_limit command) ⊎ ((told : List ℕ) → IsGoodFor command told → ⊥)) → Accepts g command source old (status_of r)
  accept_by command None bytes old r input accepts kind = tt
  accept_by command (Some told) bytes old r input accepts (inl reads_it) = λ good fits room.
      let same : told ≡ bytes = sym (input.same reads_it) in
      accepts (subst (IsGoodFor command) same good) (subst (λ b. HasRoomFor g command b old) same room)
  accept_by command (Some told) bytes old r input accepts (inr none) = λ good fits room. absurd (none told good)

  pub bytes_accept : (command : Command) (source : Option (List ℕ)) (bytes : List ℕ) (old : D) (r : Refusal) → IsInput (source_limit command) source bytes → AcceptsBytes g command bytes old r
      → Accepts g command source old (status_of r)
  bytes_accept command source bytes old r input accepts = accept_by command source bytes old r input accepts (read_or_none command)

pub certificates_accepted : {D : Type 0} (g : Ghosts D) (source : Option (List ℕ)) (old : D) (s : Status) → Accepts g Verify source old s
    → IfSome source (λ told. length told ≤ MOST_CERTIFICATE_BYTES → (c : Certificate) → IsGood c → ReadsAs told c → IsUnrefused s)
certificates_accepted g None old s h = tt
certificates_accepted g (Some told) old s h = λ fits c good spelled. h (c, (good, spelled)) fits tt

pub lessons_accepted : {D : Type 0} (g : Ghosts D) (source : Option (List ℕ)) (old : D) (s : Status) → Accepts g Learn source old s
    → IfSome source (λ told. length told ≤ MOST_CERTIFICATE_BYTES → (c : Certificate) → IsGood c → ReadsAs told c → MayLearn g c old → IsUnrefused s)
lessons_accepted g None old s h = tt
lessons_accepted g (Some told) old s h = λ fits c good spelled may. h (c, (good, spelled)) fits (λ other reads. subst (λ (x : Certificate). MayLearn g x old) (one_certificate_read told c other spelled reads) may)

pub tables_accepted : {D : Type 0} (g : Ghosts D) (source : Option (List ℕ)) (old : D) (s : Status) → Accepts g TableCheck source old s
    → IfSome source (λ told. (k : ℕ) (numbers : List ℕ) → IsTable k numbers → told ≡ bytes_of k numbers → IsUnrefused s)
tables_accepted g None old s h = tt
tables_accepted g (Some told) old s h = λ k numbers table spelled. h (k, (numbers, (table, spelled))) (table_is_short k numbers told table spelled) tt
