-- Three words by command say all that a command is to its source: how long it may be, which text
-- answers it, and which fault of it stands. A new command has a case in each.
use Rattle.std.specs.Prelude.{◌≡◌, ℕ, Bool, true, List, Option, Some, None}
use Rattle.bench_edges.specs.declared.words.Command.{Command}
use Rattle.bench_edges.specs.declared.words.Command.TheVariants.{Solve, Report, Certify, Verify, Learn, MakeTable, TableCheck, Generate}
use Rattle.capture_positions.specs.Walk.{openings_from}
use Rattle.certificate_text.specs.Text.{ReadsAs}
use Rattle.strategy_certificate.specs.declared.certificates.Certificate.{Certificate}
use Rattle.journal_looks.specs.Looks.{IsTrueReport}
use Rattle.journal_runs.specs.Journals.{CountsRoots}
use Rattle.strategy_certificate.specs.Certificates.{IsGood}
use Rattle.opening_report.specs.declared.refusals.Refusal.{Refusal}
use Rattle.program_edges.specs.Games.{HasGamesFault}
use Rattle.program_edges.specs.declared.sources.TheConstants.{MOST_GAMES_BYTES}
use Rattle.bench_commands.specs.declared.commands.table_check.TheConstants.{MOST_TABLE_BYTES}
use Rattle.bench_commands.specs.declared.commands.verify.TheConstants.{MOST_CERTIFICATE_BYTES}
use Rattle.bench_commands.specs.Learning.{IsLearntOf}
use Rattle.bench_commands.specs.Solving.{IsReportOn}
use Rattle.bench_commands.specs.Tables.{AreTableBytes, IsSoundOf, HasTableFault}
use Rattle.bench_commands.specs.Verifying.{IsVerifiedOf, HasCertificateFault}

-- how many bytes its source has at most; none where it reads no source
abbrev pub source_limit : Command → Option ℕ
source_limit (Solve options) = Some MOST_GAMES_BYTES
source_limit Report = None
source_limit (Certify root) = None
source_limit Verify = Some MOST_CERTIFICATE_BYTES
source_limit Learn = Some MOST_CERTIFICATE_BYTES
source_limit (MakeTable pieces) = None
source_limit TableCheck = Some MOST_TABLE_BYTES
source_limit (Generate seed count) = None

-- the text is that of a good certificate, so that its claim is true
abbrev pub IsCertificateText : List ℕ → Type 0
IsCertificateText text = (c : Certificate) × (ReadsAs text c × IsGood c)

-- This text answers this source, whatever the disk tells, and all is settled, or (false) some root is
-- not. Where nothing can be unsettled, all is settled.
abbrev pub Answers : Command → List ℕ → List ℕ → Bool → Type 0
Answers (Solve options) source text settled = IsReportOn options source text settled
Answers Report source text settled = IsTrueReport text settled
Answers (Certify root) source text settled = IsCertificateText text × (settled ≡ true)
Answers Verify source text settled = IsVerifiedOf source text × (settled ≡ true)
Answers Learn source text settled = IsLearntOf source text × (settled ≡ true)
Answers (MakeTable pieces) source text settled = AreTableBytes pieces text × (settled ≡ true)
Answers TableCheck source text settled = IsSoundOf source text × (settled ≡ true)
Answers (Generate seed count) source text settled =
    CountsRoots (openings_from seed count) text settled

-- nothing answers this source, for this fault
abbrev pub HasFault : Command → List ℕ → Refusal → Type 0
HasFault (Solve options) source r = HasGamesFault options.plies source r
HasFault Report source r = ⊥
HasFault (Certify root) source r = ⊥
HasFault Verify source r = HasCertificateFault source r
HasFault Learn source r = HasCertificateFault source r
HasFault (MakeTable pieces) source r = ⊥
HasFault TableCheck source r = HasTableFault source r
HasFault (Generate seed count) source r = ⊥

-- the command has workers search for values
abbrev pub Searches : Command → Type 0
Searches (Solve options) = Unit {0}
Searches Report = ⊥
Searches (Certify root) = ⊥
Searches Verify = ⊥
Searches Learn = ⊥
Searches (MakeTable pieces) = ⊥
Searches TableCheck = ⊥
Searches (Generate seed count) = Unit {0}
