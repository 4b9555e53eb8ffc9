-- What `solve` reads, writes and refuses, and what it settles, and `generate`, with an ample budget.
use Rattle.std.proofs.Common.{◌≡◌, ℕ, ◌+◌, ◌<◌, ◌≤◌, ◌^◌, Bool, List, Option, None, Some, refl, sym, ◌∙◌, subst, length, arith, lit<}
use Rattle.std.specs.Prelude.{◌≢◌, Contains, IfOk, IfSome, Result, Ok, Err, true}
use Rattle.std.proofs.lemmas.Bool.{true≢false}
use Rattle.bench_disk.specs.declared.disk.Disk.{Ghosts}
use Rattle.bench_edges.specs.declared.status.Status.{Status}
use Rattle.bench_edges.specs.declared.status.Status.TheVariants.{Unsolved}
use Rattle.bench_edges.specs.declared.words.Command.{Command}
use Rattle.bench_edges.specs.declared.words.Command.TheVariants.{Solve, Generate}
use Rattle.bench_edges.specs.declared.words.Options.{Options}
use Rattle.draughts_board.specs.Board.{Board}
use Rattle.capture_positions.specs.Walk.{openings_from}
use Rattle.pdn_text.specs.declared.game.Game.{Game}
use Rattle.pdn_text.proofs.OneReading.{one_reading}
use Rattle.pdn_openings.specs.Openings.{AreOpenings}
use Rattle.pdn_openings.specs.declared.opening.Opening.{Opening}
use Rattle.pdn_openings.proofs.Determined.{one_list}
use Rattle.proof_tree.specs.Forest.{Forest}
use Rattle.journal_runs.specs.Ample.{IsAmple}
use Rattle.journal_runs.specs.Journals.{ReportsTruth, Resumes}
use Rattle.tree_manager.proofs.ExactLemmas.{files_read_as_one_list}
use Rattle.opening_report.specs.declared.roots.Root.{Root}
use Rattle.opening_report.specs.Report.{report_of}
use Rattle.opening_report.proofs.ReportLemmas.{report-is_true}
use Rattle.bench_commands.proofs.OnceLemmas.{roots_stand_in_one_line}
use Rattle.bench_commands.specs.Lines.{StandsInOneLine}
use Rattle.bench_commands.specs.Accepted.{Accepts, HasAmpleBudget, HasRoom, IsUnrefused}
use Rattle.bench_commands.specs.declared.commands.generate.TheConstants.{GENERATE_DEPTH, GENERATE_LEASE, GENERATE_PIECES}
use Rattle.program_edges.specs.declared.sources.TheConstants.{MOST_GAMES_BYTES}
use Rattle.program_edges.specs.Answers.{TakesOutput}
use Rattle.program_edges.specs.Sources.{IsInput}
use Rattle.bench_commands.specs.Bench.{Does, Finishes, Reports, WritesOnly, HoldsOpenings}
use Rattle.bench_commands.specs.Commands.{Answers, source_limit}
use Rattle.bench_commands.specs.Solving.{OpeningsOf, IsReportOn, roots_of_openings}
use Rattle.bench_commands.specs.Steps.{SaysTrue}
use Rattle.bench_commands.proofs.RootLemmas.{opening_root}
use Rattle.bench_commands.proofs.WritingLemmas.{output_whole}

-- ---- the openings of a text

pub one_list_of : (plies : ℕ) (text : List ℕ) (a b : List Opening) → OpeningsOf plies text a → OpeningsOf plies text b → a ≡ b
one_list_of plies text a b p q =
    one_list plies p.0 a b p.1.1 (subst (λ (games : List Game). AreOpenings plies games b) (one_reading text q.0 p.0 q.1.0 p.1.0) q.1.1)

-- ---- the report says what is true, and each opening's position once

few_lines : (roots : List Root) → length roots ≤ 65536 → 1 + length roots < 2 ^ 64
few_lines roots few = let k : 65538 < 2 ^ 64 = lit< tt in omega (arith, few, k)

pub report_says : (positions : List Board) (text : List ℕ) (settled : Bool) → ReportsTruth positions text settled → SaysTrue text
report_says positions text settled p front back whole = report-is_true p.roots front back (few_lines p.roots p.few) p.true_values (sym p.text_is ∙ whole)

once_each : (options : Options) (source text : List ℕ) (settled : Bool) → IsReportOn options source text settled
    → (all : List Opening) → OpeningsOf options.plies source all → (o : Opening) → Contains all o → StandsInOneLine text o.position
once_each options source text settled p all reads o h =
    let report = p.reported in
    let here = subst (λ l. Contains l o) (one_list_of options.plies source all p.openings reads p.read) h in
    let at = report.each o.position (opening_root p.openings o here) in
    subst (λ t. StandsInOneLine t o.position) (sym report.text_is)
    (subst (StandsInOneLine (report_of report.roots)) at.1.1 (roots_stand_in_one_line report.roots at.0 (few_lines report.roots report.few) report.true_values report.apart at.1.0))

-- the same of what a run writes, if it does
pub run_says : {X E : Type 0} (positions : List Board) (r : Result X E) (text : X → List ℕ) (settled : X → Bool) → IfOk r (λ x. ReportsTruth positions (text x) (settled x)) → IfOk r (λ x. SaysTrue (text x))
run_says positions (Ok x) text settled h = report_says positions (text x) (settled x) h
run_says positions (Err e) text settled h = tt

-- ---- the openings of the source of a run

-- a good source of openings, and a journal that has room for their roots, are not refused
pub openings_accepted : {D : Type 0} (g : Ghosts D) (options : Options) (source : Option (List ℕ)) (old : D) (status : Status) → Accepts g (Solve options) source old status
    → IfSome source (λ told. length told ≤ MOST_GAMES_BYTES → (all : List Opening) → OpeningsOf options.plies told all → HasRoom g options.pieces (roots_of_openings all) old → IsUnrefused status)
openings_accepted g options None old status h = tt
openings_accepted g options (Some told) old status h = λ fits all read room.
    h (all, read) fits (λ others are. subst (λ (os : List Opening). HasRoom g options.pieces (roots_of_openings os) old) (one_list_of options.plies told all others read are) room)

-- ---- an ample budget

-- a run that settles all does not end with roots unsettled
settled_solves : (text : List ℕ) (settled : Bool) (before after : Option (List ℕ)) (status : Status) → settled ≡ true → TakesOutput status text settled before after → status ≢ Unsolved
settled_solves text settled before after status all taken is =
    let output = subst (λ (s : Status). TakesOutput s text settled before after) is taken in
    true≢false (sym all ∙ output.0)

module _ {D : Type 0} (g : Ghosts D) where
  ample_settles : (text_of : Forest → List ℕ) (pieces depth budget lease : ℕ) (positions : List Board) (old new : D) (text : List ℕ) (settled : Bool) → HasAmpleBudget g pieces depth budget positions old
      → Resumes g text_of pieces depth budget lease positions old new text settled → settled ≡ true
  ample_settles text_of pieces depth budget lease positions old new text settled ample resumed =
      resumed.ample (subst (IsAmple pieces depth budget positions) (files_read_as_one_list pieces (g.reads old) ample.records resumed.before ample.read resumed.read_then) ample.ample)

  -- a run for which the budget is ample leaves no root unsettled
  pub ample_solves : (options : Options) (source before after : Option (List ℕ)) (old new : D) (status : Status)
      → (Reports status → Does g (Solve options) source before after old new status)
      → IfSome source (λ told. (all : List Opening) → OpeningsOf options.plies told all
      → HasAmpleBudget g options.pieces options.depth options.budget (roots_of_openings all) old → status ≢ Unsolved)
  ample_solves options None before after old new status does = tt
  ample_solves options (Some told) before after old new status does = λ all read ample is.
      let done = does (subst Reports (sym is) tt) in
      let same : done.input ≡ told = done.is_input.same refl in
      let openings : done.shows.openings ≡ all = one_list_of options.plies told done.shows.openings all (subst (λ t. OpeningsOf options.plies t done.shows.openings) same done.shows.read) read in
      let enough = subst (λ (os : List Opening). HasAmpleBudget g options.pieces options.depth options.budget (roots_of_openings os) old) (sym openings) ample in
      settled_solves done.text done.settled before after status
      (ample_settles _ options.pieces options.depth options.budget options.lease (roots_of_openings done.shows.openings) old new done.text done.settled enough (done.shows.resumed ample.honest))
      done.taken is

  -- .. of `generate`
  pub ample_generates : (seed count : ℕ) (source before after : Option (List ℕ)) (old new : D) (status : Status)
      → (Reports status → Does g (Generate seed count) source before after old new status)
      → HasAmpleBudget g GENERATE_PIECES GENERATE_DEPTH count (openings_from seed count) old → status ≢ Unsolved
  ample_generates seed count source before after old new status does ample is =
      let done = does (subst Reports (sym is) tt) in
      settled_solves done.text done.settled before after status
      (ample_settles _ GENERATE_PIECES GENERATE_DEPTH count GENERATE_LEASE (openings_from seed count) old new done.text done.settled ample (done.shows ample.honest))
      done.taken is

-- ---- each opening's position once

of_source : (options : Options) (source : Option (List ℕ)) (input text : List ℕ) (settled : Bool) → IfSome source (λ told. input ≡ told) → IsReportOn options input text settled
    → IfSome source (λ told. (openings : List Opening) → OpeningsOf options.plies told openings → (opening : Opening) → Contains openings opening → StandsInOneLine text opening.position)
of_source options None input text settled same p = tt
of_source options (Some told) input text settled same p = λ all reads. once_each options input text settled p all (subst (λ t. OpeningsOf options.plies t all) (sym same) reads)

answers_hold : (command : Command) (source : Option (List ℕ)) (input text : List ℕ) (settled : Bool) → IsInput (source_limit command) source input → Answers command input text settled → HoldsOpenings command source text
answers_hold (Solve options) source input text settled is_input answers = λ other said.
    let same : options ≡ other = cc in
    subst (λ (o : Options). IfSome source (λ told. (openings : List Opening) → OpeningsOf o.plies told openings → (opening : Opening) → Contains openings opening → StandsInOneLine text opening.position))
    same (of_source options source input text settled (is_input.same refl) answers)
answers_hold command source input text settled is_input answers = λ options said. absurd cc

pub output_holds : (command : Command) (source : Option (List ℕ)) (input text : List ℕ) (settled : Bool) (before after : Option (List ℕ)) (status : Status) → Finishes status
    → IsInput (source_limit command) source input → Answers command input text settled → TakesOutput status text settled before after
    → WritesOnly before after (HoldsOpenings command source)
output_holds command source input text settled before after status finished is_input answers taken = (text, (output_whole text settled before after status finished taken, answers_hold command source input text settled is_input answers))
