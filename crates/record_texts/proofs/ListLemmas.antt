-- One record more is written.
use Rattle.std.proofs.Common.{◌≡◌, ◌≢◌, ◌⊎◌, inl, inr, ℕ, zero, suc, ◌+◌, ◌-◌, ◌<◌, ◌≤◌, Bool, true, false, List, [], ◌∷◌, ◌++◌, length, drop, Some, refl, sym, ap, ◌∙◌, subst, arith, append_assoc, append-nil}
use Rattle.std.specs.Prelude.{slice_get}
use Rattle.std.proofs.lemmas.List.{length-drop}
use Rattle.std.proofs.lemmas.Bool.{eq-eqb}
use Rattle.std.proofs.lemmas.Bool.Decides.{eqb_tells}
use Rattle.std.proofs.Math.Dec.{eqb}
use Rattle.bench_records.specs.declared.records.BenchRecord.{BenchRecord}
use Rattle.proof_tree.specs.Forest.{Forest}
use Rattle.record_texts.specs.Lists.{record_lines, record_text}
use Rattle.record_texts.specs.Records.{begun_with, is_end}

pub drop_here : {X : Type 0} (xs : List X) (i : ℕ) (x : X) → slice_get xs i ≡ Some x → drop i xs ≡ x ∷ drop (i + 1) xs
drop_here xs i x e = by xs i x e ∙ ap (λ n. x ∷ drop n xs) (let z : suc i ≡ i + 1 = omega arith in z)
  where
    by : {X : Type 0} (xs : List X) (i : ℕ) (x : X) → slice_get xs i ≡ Some x → drop i xs ≡ x ∷ drop (suc i) xs
    by [] i x e = absurd cc
    by (y ∷ xs) zero x e = (let same : y ≡ x = cc in ap (λ z. z ∷ xs) same)
    by (y ∷ xs) (suc i) x e = by xs i x e

none_left : (xs : List BenchRecord) → length xs ≡ 0 → is_end xs ≡ true
none_left [] none = refl
none_left (x ∷ xs) none = absurd (omega (arith, none))

some_left : (xs : List BenchRecord) (m : ℕ) → length xs ≡ suc m → is_end xs ≡ false
some_left [] m some = absurd (omega (arith, some))
some_left (x ∷ xs) m some = refl

-- whether the record at place i is the last
pub end_here : (records : List BenchRecord) (i n : ℕ) → length records ≡ n → i < n → eqb (i + 1) n ≡ is_end (drop (i + 1) records)
end_here records i n all within = by (length (drop (i + 1) records)) refl
  where
    long : length (drop (i + 1) records) ≡ length records - (i + 1)
    long = length-drop (i + 1) records

    by : (m : ℕ) → length (drop (i + 1) records) ≡ m → eqb (i + 1) n ≡ is_end (drop (i + 1) records)
    by zero is = eq-eqb (i + 1) n (omega (arith, all, within, long, is)) ∙ sym (none_left (drop (i + 1) records) is)
    by (suc m) is = other (eqb_tells (i + 1) n) ∙ sym (some_left (drop (i + 1) records) m is)
      where
        other : ((eqb (i + 1) n ≡ true) × (i + 1 ≡ n)) ⊎ ((eqb (i + 1) n ≡ false) × (i + 1 ≢ n)) → eqb (i + 1) n ≡ false
        other (inl same) = absurd (let e = same.1 in omega (arith, all, e, long, is))
        other (inr differs) = differs.0

pub lines_more : (json : Bool) (roots : Forest) (records : List BenchRecord) (i begun : ℕ) (r : BenchRecord) (is_last : Bool) (text text' whole : List ℕ) → slice_get records i ≡ Some r → is_last ≡ is_end (drop (i + 1) records)
    → text' ≡ text ++ record_text json roots (i + 1) begun is_last r → text ++ record_lines json roots (i + 1) begun (drop i records) ≡ whole
    → text' ++ record_lines json roots (i + 1 + 1) (begun_with begun r) (drop (i + 1) records) ≡ whole
lines_more json roots records i begun r is_last text text' whole at last is so_far =
    let rest = record_lines json roots (i + 1 + 1) (begun_with begun r) (drop (i + 1) records) in
    let here : record_lines json roots (i + 1) begun (drop i records) ≡ record_text json roots (i + 1) begun is_last r ++ rest =
    ap (λ (l : List BenchRecord). record_lines json roots (i + 1) begun l) (drop_here records i r at)
    ∙ ap (λ (b : Bool). record_text json roots (i + 1) begun b r ++ rest) (sym last) in
    ap (λ (t : List ℕ). t ++ rest) is
    ∙ (append_assoc text (record_text json roots (i + 1) begun is_last r) rest ∙ (ap (λ (t : List ℕ). text ++ t) (sym here) ∙ so_far))

-- .. by the tree that tells the roots, and the number of roots that is counted on
pub lines_on : (json : Bool) (roots tree : Forest) (records : List BenchRecord) (i begun next : ℕ) (r : BenchRecord) (is_last : Bool) (text text' whole : List ℕ) → slice_get records i ≡ Some r
    → is_last ≡ is_end (drop (i + 1) records) → tree ≡ roots → next ≡ begun_with begun r → text' ≡ text ++ record_text json tree (i + 1) begun is_last r
    → text ++ record_lines json roots (i + 1) begun (drop i records) ≡ whole → text' ++ record_lines json roots (i + 1 + 1) next (drop (i + 1) records) ≡ whole
lines_on json roots tree records i begun next r is_last text text' whole at last same counted is so_far =
    subst (λ (n : ℕ). text' ++ record_lines json roots (i + 1 + 1) n (drop (i + 1) records) ≡ whole) (sym counted)
    (lines_more json roots records i begun r is_last text text' whole at last (subst (λ (f : Forest). text' ≡ text ++ record_text json f (i + 1) begun is_last r) same is) so_far)

none_after : {X : Type 0} (xs : List X) (i : ℕ) → length xs ≤ i → drop i xs ≡ []
none_after [] zero l = refl
none_after [] (suc i) l = refl
none_after (x ∷ xs) zero l = absurd (omega (arith, l))
none_after (x ∷ xs) (suc i) l = none_after xs i (omega (arith, l))

-- all are written
pub lines_done : (json : Bool) (roots : Forest) (records : List BenchRecord) (i begun : ℕ) (text whole : List ℕ) → length records ≤ i → text ++ record_lines json roots (i + 1) begun (drop i records) ≡ whole → text ≡ whole
lines_done json roots records i begun text whole past so_far =
    sym (append-nil text) ∙ (ap (λ (l : List BenchRecord). text ++ record_lines json roots (i + 1) begun l) (sym (none_after records i past)) ∙ so_far)
