-- With room to search each root, the report leaves none unsettled of which looking ahead shows a value.
use Rattle.std.proofs.Common.{◌≡◌, ℕ, suc, ◌+◌, ◌<◌, ◌≤◌, ◌^◌, Bool, false, true, List, [], ◌∷◌, ◌++◌, Option, None, Some, is_some, IsSome, refl, sym, ap, ◌∙◌, subst, map, length, arith, lit<, length-append, append-nil, ⊎_elim}
use Rattle.std.specs.Prelude.{Contains, IfSome}
use Rattle.std.specs.List.{AllByRecursion as Each}
use Rattle.std.proofs.lemmas.Bool.{false≢true}
use Rattle.bench_disk.specs.declared.disk.Disk.{Ghosts}
use Rattle.bench_edges.specs.declared.status.Status.{Status}
use Rattle.bench_edges.specs.declared.status.Status.TheVariants.{Done, Unsolved, Words, Input, Disk, Journal, Memory, Read, Write}
use Rattle.bench_edges.specs.declared.words.Command.TheVariants.{Solve}
use Rattle.bench_edges.specs.declared.words.Options.{Options}
use Rattle.draughts_board.specs.Board.{Board, IsLawful}
use Rattle.proof_tree.specs.Forest.{Forest, no_node, Node, nodes, value_of}
use Rattle.proof_tree.specs.Sound.{root_positions}
use Rattle.bench_records.specs.declared.records.BenchRecord.{BenchRecord}
use Rattle.bench_records.specs.declared.records.BenchRecord.TheVariants as records
use Rattle.bench_core.specs.Growing.{GrowsWith, GrowsWithAll, IsForestOf}
use Rattle.bench_core.proofs.Lists.{Contains-cases, Each-append}
use Rattle.bench_core.proofs.SoundApplied.{roots_grown}
use Rattle.pdn_openings.specs.declared.opening.Opening.{Opening}
use Rattle.tree_manager.proofs.CoreLemmas.{contains_nothing}
use Rattle.tree_manager.proofs.ExactLemmas.{files_read_as_one_list}
use Rattle.journal_runs.specs.Ample.{IsReached, IsRoomForEach, ShowsValue}
use Rattle.journal_runs.specs.Journals.{Resumes}
use Rattle.opening_report.specs.Report.{forest_roots, report_of, root_of}
use Rattle.opening_report.specs.declared.roots.Root.{Root}
use Rattle.opening_report.proofs.ReportLemmas.{report-says_lawful}
use Rattle.bench_commands.specs.Accepted.{HasRoomToSearch}
use Rattle.bench_commands.specs.Bench.{Does, Finishes, Reports, SettlesAllShown, WritesOnly}
use Rattle.bench_commands.specs.Solving.{OpeningsOf, roots_of_openings}
use Rattle.bench_commands.proofs.SolvingLemmas.{one_list_of}
use Rattle.bench_commands.proofs.WritingLemmas.{output_whole}

-- ---- the roots of a forest of records

-- lawful positions, and no more than a journal has
record AreFit (ps : List Board) : Type 0 where
  lawful : Each IsLawful ps
  few : length ps ≤ 65536

grown_fit : (k : ℕ) (f g : Forest) (r : BenchRecord) → GrowsWith k f r g → AreFit (root_positions f) → AreFit (root_positions g)
grown_fit k f g (records.Begin p) grows fit =
    let may = grows.lawful in
    let room = may.room in
    let one = length-append (root_positions f) (p ∷ []) in
    subst AreFit (sym (roots_grown k f g (records.Begin p) grows))
    (record { lawful = Each-append IsLawful (root_positions f) (p ∷ []) fit.lawful (may.lawful, tt); few = omega (arith, room, one) })
grown_fit k f g (records.Solve n p shown) grows fit = subst AreFit (sym (roots_grown k f g (records.Solve n p shown) grows ∙ append-nil (root_positions f))) fit
grown_fit k f g (records.Expand n) grows fit = subst AreFit (sym (roots_grown k f g (records.Expand n) grows ∙ append-nil (root_positions f))) fit

all_fit : (k : ℕ) (f : Forest) (rs : List BenchRecord) (g : Forest) → GrowsWithAll k f rs g → AreFit (root_positions f) → AreFit (root_positions g)
all_fit k f [] g grows fit = subst (λ (h : Forest). AreFit (root_positions h)) (sym grows) fit
all_fit k f (r ∷ rs) g grows fit = all_fit k grows.0 rs g grows.1.1 (grown_fit k f grows.0 r grows.1.0 fit)

none_fit : AreFit []
none_fit = record { lawful = tt; few = omega arith }

roots_lawful : (xs : List Node) → Each IsLawful (map (λ (x : Node). x.own.position) xs) → (r : Root) → Contains (map root_of xs) r → IsLawful r.position
roots_lawful [] each r there = absurd (contains_nothing r there)
roots_lawful (x ∷ xs) each r there = ⊎_elim (λ same. subst (λ (q : Root). IsLawful q.position) same each.0) (λ rest. roots_lawful xs each.1 r rest) (Contains-cases (root_of x) r (map root_of xs) there)

same_length : (xs : List Node) → length (map root_of xs) ≡ length (map (λ (x : Node). x.own.position) xs)
same_length [] = refl
same_length (x ∷ xs) = ap suc (same_length xs)

-- ---- a root that is reached is said with its value

none_shown : (k depth : ℕ) (xs : List Node) (p : Board) → Each (IsReached k depth) xs → Contains (map root_of xs) (record { position = p; value = None }) → ShowsValue k depth p → ⊥
none_shown k depth [] p each there shows = contains_nothing _ there
none_shown k depth (x ∷ xs) p each there shows = ⊎_elim
    (λ same.
    let settled : is_some (value_of x) ≡ true = each.0 (subst (λ q. ShowsValue k depth q) (sym (ap (λ (r : Root). r.position) same)) shows) in
    let unsettled : is_some (value_of x) ≡ false = ap (λ (r : Root). is_some r.value) same in
    false≢true (sym unsettled ∙ settled))
    (λ rest. none_shown k depth xs p each.1 rest shows)
    (Contains-cases (root_of x) (record { position = p; value = None }) (map root_of xs) there)

report_settles : (k depth : ℕ) (rs : List BenchRecord) (roots : Forest) (text : List ℕ) → IsForestOf k rs roots → Each (IsReached k depth) (nodes roots) → text ≡ report_of (forest_roots roots) → SettlesAllShown k depth text
report_settles k depth rs roots text grown reached is = λ n p small lawful has shows.
    let fit = all_fit k no_node rs roots grown none_fit in
    let few = fit.few in
    let same = same_length (nodes roots) in
    let bound : 65538 < 2 ^ 64 = lit< tt in
    let below : 1 + length (forest_roots roots) < 2 ^ 64 = omega (arith, few, same, bound) in
    let said = report-says_lawful (forest_roots roots) text [] below (roots_lawful (nodes roots) fit.lawful) (sym is ∙ sym (append-nil text)) n p None small lawful has in
    none_shown k depth (nodes roots) p reached said shows

-- ---- a run

reports : (status : Status) → Finishes status → Reports status
reports Done f = tt
reports Unsolved f = tt
reports Write f = absurd f
reports Memory f = absurd f
reports Words f = absurd f
reports Input f = absurd f
reports Disk f = absurd f
reports Journal f = absurd f
reports Read f = absurd f

module _ {D : Type 0} (g : Ghosts D) where
  pub reached_solves : (options : Options) (source before after : Option (List ℕ)) (old new : D) (status : Status)
      → (Reports status → Does g (Solve options) source before after old new status)
      → IfSome source (λ told. (all : List Opening) → OpeningsOf options.plies told all
      → HasRoomToSearch g options.pieces options.budget options.lease (roots_of_openings all) old → Finishes status → WritesOnly before after (SettlesAllShown options.pieces options.depth))
  reached_solves options None before after old new status does = tt
  reached_solves options (Some told) before after old new status does = λ all read room finished.
      let done = does (reports status finished) in
      let same : done.input ≡ told = done.is_input.same refl in
      let openings : done.shows.openings ≡ all = one_list_of options.plies told done.shows.openings all (subst (λ t. OpeningsOf options.plies t done.shows.openings) same done.shows.read) read in
      let resumed = done.shows.resumed room.honest in
      let records : room.records ≡ resumed.before = files_read_as_one_list options.pieces (g.reads old) room.records resumed.before room.read resumed.read_then in
      let has : IsRoomForEach options.pieces options.budget options.lease (roots_of_openings done.shows.openings) resumed.before =
      subst (λ (rs : List BenchRecord). IsRoomForEach options.pieces options.budget options.lease (roots_of_openings done.shows.openings) rs) records
      (subst (λ (os : List Opening). IsRoomForEach options.pieces options.budget options.lease (roots_of_openings os) room.records) (sym openings) room.room) in (
        done.text,
        (
          output_whole done.text done.settled before after status finished done.taken,
          report_settles options.pieces options.depth (resumed.before ++ resumed.added) resumed.roots done.text resumed.grown (resumed.reached has) resumed.text_is,
        ),
      )
