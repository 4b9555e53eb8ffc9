-- A line goes on as its marks do.
use Rattle.std.proofs.Common.{◌≡◌, ◌+◌, List, [], ◌∷◌, ◌++◌, length, refl, ap, arith}
use Rattle.bench_records.specs.declared.records.BenchRecord.{BenchRecord}
use Rattle.tree_manager.specs.declared.entries.Entry.{Entry}
use Rattle.tree_manager.specs.declared.entries.Entry.TheVariants as entry
use Rattle.tree_manager.specs.declared.marks.Mark.{Mark}
use Rattle.tree_manager.specs.declared.marks.Mark.TheVariants.{Put, Attached, Leased, Released, Acked, Broken}
use Rattle.tree_manager.specs.Weaving.{woven, entry_marked, puts_marked}

pub woven_put : (marks : List Mark) (rs : List BenchRecord) (r : BenchRecord) → puts_marked marks ≡ length rs → woven (marks ++ Put ∷ []) (rs ++ r ∷ []) ≡ woven marks rs ++ entry.Put r ∷ []
woven_put [] [] r h = refl
woven_put [] (x ∷ rs) r h = absurd (omega (arith, h))
woven_put (Put ∷ marks) [] r h = absurd (omega (arith, h))
woven_put (Put ∷ marks) (x ∷ rs) r h = ap (λ (l : List Entry). entry.Put x ∷ l) (woven_put marks rs r (omega (arith, h)))
woven_put (Attached a ∷ marks) rs r h = ap (λ (l : List Entry). entry.Attached a ∷ l) (woven_put marks rs r h)
woven_put (Leased l ∷ marks) rs r h = ap (λ (xs : List Entry). entry.Leased l ∷ xs) (woven_put marks rs r h)
woven_put (Released id ∷ marks) rs r h = ap (λ (l : List Entry). entry.Released id ∷ l) (woven_put marks rs r h)
woven_put (Acked m ∷ marks) rs r h = ap (λ (l : List Entry). entry.Acked m ∷ l) (woven_put marks rs r h)
woven_put (Broken f ∷ marks) rs r h = ap (λ (l : List Entry). entry.Broken f ∷ l) (woven_put marks rs r h)

woven_alone : (m : Mark) → puts_marked (m ∷ []) ≡ 0 → woven (m ∷ []) [] ≡ entry_marked m
woven_alone Put h = absurd (omega (arith, h))
woven_alone (Attached a) h = refl
woven_alone (Leased l) h = refl
woven_alone (Released id) h = refl
woven_alone (Acked m) h = refl
woven_alone (Broken f) h = refl

pub woven_other : (marks : List Mark) (rs : List BenchRecord) (m : Mark) → puts_marked marks ≡ length rs → puts_marked (m ∷ []) ≡ 0 → woven (marks ++ m ∷ []) rs ≡ woven marks rs ++ entry_marked m
woven_other [] [] m h k = woven_alone m k
woven_other [] (x ∷ rs) m h k = absurd (omega (arith, h))
woven_other (Put ∷ marks) [] m h k = absurd (omega (arith, h))
woven_other (Put ∷ marks) (x ∷ rs) m h k = ap (λ (l : List Entry). entry.Put x ∷ l) (woven_other marks rs m (omega (arith, h)) k)
woven_other (Attached a ∷ marks) rs m h k = ap (λ (l : List Entry). entry.Attached a ∷ l) (woven_other marks rs m h k)
woven_other (Leased l ∷ marks) rs m h k = ap (λ (xs : List Entry). entry.Leased l ∷ xs) (woven_other marks rs m h k)
woven_other (Released id ∷ marks) rs m h k = ap (λ (l : List Entry). entry.Released id ∷ l) (woven_other marks rs m h k)
woven_other (Acked n ∷ marks) rs m h k = ap (λ (l : List Entry). entry.Acked n ∷ l) (woven_other marks rs m h k)
woven_other (Broken f ∷ marks) rs m h k = ap (λ (l : List Entry). entry.Broken f ∷ l) (woven_other marks rs m h k)

pub puts_push : (marks : List Mark) (m : Mark) → puts_marked (marks ++ m ∷ []) ≡ puts_marked marks + puts_marked (m ∷ [])
puts_push [] m = omega arith
puts_push (Put ∷ marks) m = omega (arith, puts_push marks m)
puts_push (Attached a ∷ marks) m = puts_push marks m
puts_push (Leased l ∷ marks) m = puts_push marks m
puts_push (Released id ∷ marks) m = puts_push marks m
puts_push (Acked n ∷ marks) m = puts_push marks m
puts_push (Broken f ∷ marks) m = puts_push marks m
