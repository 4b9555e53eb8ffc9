-- Forests that came about by lawful records are sound, and one list makes one forest.
use Rattle.std.proofs.Common.{◌≡◌, ℕ, List, [], ◌∷◌, ◌++◌, refl, sym, subst, ◌∙◌, arith}
use Rattle.std.specs.List.{IsDistinct}
use Rattle.std.specs.Prelude.{nat_lt, cond}
use Rattle.std.proofs.lemmas.Bool.Decides.{nat_tests}
use Rattle.draughts_board.specs.Board.{same_board}
use Rattle.proof_tree.specs.Forest.{Forest, no_node}
use Rattle.proof_tree.specs.Sound.{IsSoundForest, occurrences}
use Rattle.proof_tree.proofs.Opposed.{settled_roots_are_resolved}
use Rattle.bench_records.specs.declared.records.BenchRecord.{BenchRecord}
use Rattle.bench_core.specs.Growing.{GrowsWith, GrowsWithAll}
use Rattle.bench_core.specs.Laws.{RecordsSettleWhatTheyResolve}
use Rattle.bench_core.specs.States.{CoreState, IsSoundBy}
use Rattle.bench_core.proofs.OneForest.{records_have_one_forest}
use Rattle.bench_core.proofs.SoundGrowth.{grown_push}
use Rattle.bench_core.proofs.SoundApplied.{state_grown}

-- nothing but a forest
abbrev pub idle : ℕ → Forest → CoreState
idle k f =
    record {
      forest = f;
      leases = record { limit = 1; rows = [] };
      given = 0;
      work = 0;
      settings = record { budget = 0; depth = 0; pieces = k };
    }

abbrev pub IsGrown : ℕ → Forest → Type 0
IsGrown k f = (records : List BenchRecord) × IsSoundBy records (idle k f)

none_below : (n : ℕ) → occurrences n no_node ≡ cond (nat_lt n 0) 1 0
none_below n = grind (arith, nat_tests)

none_apart : IsDistinct same_board []
unfolding IsDistinct
none_apart = tt

nothing_sound : IsSoundForest no_node
nothing_sound = record { each = tt; numbered = none_below; apart = none_apart }

pub nothing_grown : (k : ℕ) → IsGrown k no_node
nothing_grown k = (
  [],
  record {
    lasts = omega arith;
    forest = refl;
    numbered = nothing_sound;
    sight = tt;
    certified = tt;
    named = λ n past. refl;
    apart = tt;
    rows = tt;
  },
)

pub grown_with : (k : ℕ) (f g : Forest) (r : BenchRecord) → IsGrown k f → GrowsWith k f r g → IsGrown k g
grown_with k f g r grown grows = (grown.0 ++ r ∷ [], state_grown grown.0 (idle k f) r g 0 [] grows grown.1 tt tt)

pub grown_with_all : (k : ℕ) (f : Forest) (records : List BenchRecord) (g : Forest) → IsGrown k f → GrowsWithAll k f records g → IsGrown k g
grown_with_all k f [] g grown is = subst (IsGrown k) (sym is) grown
grown_with_all k f (r ∷ records) g grown grows = grown_with_all k grows.0 records g (grown_with k f grows.0 r grown grows.1.0) grows.1.1

pub sound_of : (k : ℕ) (f : Forest) → IsGrown k f → IsSoundForest f
sound_of k f grown = let s = grown.1 in s.numbered

one_with : (k : ℕ) (f g h : Forest) (r : BenchRecord) → IsGrown k f → GrowsWith k f r g → GrowsWith k f r h → g ≡ h
one_with k f g h r grown one two =
    let s = grown.1 in
    records_have_one_forest k (grown.0 ++ r ∷ []) g h (grown_push k no_node grown.0 f r g s.forest one) (grown_push k no_node grown.0 f r h s.forest two)

pub one_with_all : (k : ℕ) (f : Forest) (records : List BenchRecord) (g h : Forest) → IsGrown k f → GrowsWithAll k f records g → GrowsWithAll k f records h → g ≡ h
one_with_all k f [] g h grown one two = one ∙ sym two
one_with_all k f (r ∷ records) g h grown one two =
    let same = one_with k f one.0 two.0 r grown one.1.0 two.1.0 in
    one_with_all k two.0 records g h (grown_with k f two.0 r grown two.1.0) (subst (λ (x : Forest). GrowsWithAll k x records g) same one.1.1) two.1.1

pub records_settle_what_they_resolve : RecordsSettleWhatTheyResolve
records_settle_what_they_resolve k records roots all = settled_roots_are_resolved roots (sound_of k roots (grown_with_all k no_node records roots (nothing_grown k) all))
