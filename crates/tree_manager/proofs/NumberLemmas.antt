-- How many records a line has, and how many of them are applied.
use Rattle.std.proofs.Common.{◌≡◌, ◌≤◌, ◌+◌, ℕ, List, [], ◌∷◌, ◌++◌, length, ap, sym, ◌∙◌, subst, arith, length-append}
use Rattle.bench_core.specs.Cores.{Core}
use Rattle.tree_manager.specs.declared.entries.Entry.{Entry}
use Rattle.tree_manager.specs.declared.marks.Mark.{Mark}
use Rattle.tree_manager.specs.declared.marks.Mark.TheVariants.{Put, Attached, Leased, Released, Acked, Broken}
use Rattle.tree_manager.specs.Entries.{record_put}
use Rattle.tree_manager.specs.Lines.{recorded, applied_in, unapplied_in}
use Rattle.tree_manager.specs.Histories.{IsHistory}
use Rattle.tree_manager.specs.Turns.{GrowsByTurns}
use Rattle.tree_manager.specs.Weaving.{puts_marked}
use Rattle.tree_manager.proofs.LineLemmas.{recorded_split}
use Rattle.tree_manager.proofs.HistoryLaws.{history_stands}

-- ---- a session's line

pub puts_few : (marks : List Mark) → puts_marked marks ≤ length marks
puts_few [] = omega arith
puts_few (Put ∷ marks) = omega (arith, puts_few marks)
puts_few (Attached a ∷ marks) = omega (arith, puts_few marks)
puts_few (Leased l ∷ marks) = omega (arith, puts_few marks)
puts_few (Released id ∷ marks) = omega (arith, puts_few marks)
puts_few (Acked m ∷ marks) = omega (arith, puts_few marks)
puts_few (Broken f ∷ marks) = omega (arith, puts_few marks)

-- its records are those applied and those staged
pub recorded_length : (line : List Entry) (core : Core) → IsHistory line core → length (recorded line) ≡ length core.records + length core.staged
recorded_length line core history =
    let stands = (history_stands line core history).0 in
    ap length (recorded_split line) ∙ (length-append (applied_in line) (unapplied_in line) ∙ omega (arith, ap length stands.records, ap length stands.staged))

pub applied_length : (line : List Entry) (core : Core) → IsHistory line core → length (applied_in line) ≡ length core.records
applied_length line core history = ap length (sym (history_stands line core history).0.records)

-- ---- turns

recorded_more : (line added : List Entry) → length (recorded line) ≤ length (recorded (line ++ added))
recorded_more [] added = omega arith
recorded_more (e ∷ line) added = omega (arith, recorded_more line added, length-append (record_put e) (recorded line), length-append (record_put e) (recorded (line ++ added)))

-- turns take no record away
pub recorded_grows : (old new : List Entry) → GrowsByTurns old new → length (recorded old) ≤ length (recorded new)
recorded_grows old new grows = subst (λ line. length (recorded old) ≤ length (recorded line)) grows.whole (recorded_more old grows.added)

-- so a number of its records is one, later too
pub number_stays : (n : ℕ) (old new : List Entry) → n ≤ length (recorded old) → GrowsByTurns old new → n ≤ length (recorded new)
number_stays n old new few grows = omega (arith, few, recorded_grows old new grows)

-- where nothing is staged, each is applied
pub all_applied : (n : ℕ) (old new : List Entry) → n ≤ length (recorded old) → GrowsByTurns old new → unapplied_in new ≡ [] → n ≤ length (applied_in new)
all_applied n old new few grows none =
    omega (arith, few, recorded_grows old new grows, ap length (recorded_split new), length-append (applied_in new) (unapplied_in new), ap length none)
