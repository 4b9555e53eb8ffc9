-- The records of a log and a shelf, when one more is added.
use Rattle.std.proofs.Common.{◌≡◌, ℕ, suc, ◌+◌, List, [], ◌∷◌, ◌++◌, length, refl, ap, sym, ◌∙◌, arith}
use Rattle.std.specs.Prelude.{Bool, cond, count_by}
use Rattle.std.proofs.lemmas.List.Sums.{sum_by-append, sum_by-cons}
use Rattle.draughts_board.specs.Board.{Board}
use Rattle.strategy_certificate.specs.declared.certificates.Certificate.{Certificate}
use Rattle.bench_records.specs.declared.records.BenchRecord.{BenchRecord}
use Rattle.bench_records.specs.declared.records.BenchRecord.TheVariants as records
use Rattle.certificate_joiner.specs.Shelf.{Put}
use Rattle.bench_core.specs.declared.staged.Applied.{Applied}
use Rattle.bench_core.specs.declared.staged.Applied.TheVariants.{Begin, Solve, Expand}
use Rattle.bench_core.specs.Records.{is_work, batches_shown}
use Rattle.bench_core.specs.Grown.{is_work_applied, solves, logged}

-- the record of what is no Solve
abbrev pub record_applied : Applied → List BenchRecord
record_applied (Begin p) = records.Begin p ∷ []
record_applied (Solve p) = []
record_applied (Expand n) = records.Expand n ∷ []

pub logged_begin : (log : List Applied) (puts : List Put) (p : Board) → solves log ≡ length puts
    → logged (log ++ Begin p ∷ []) puts ≡ logged log puts ++ records.Begin p ∷ []
logged_begin [] puts p same = refl
logged_begin (Begin q ∷ log) puts p same = ap (λ (l : List BenchRecord). records.Begin q ∷ l) (logged_begin log puts p same)
logged_begin (Expand n ∷ log) puts p same = ap (λ (l : List BenchRecord). records.Expand n ∷ l) (logged_begin log puts p same)
logged_begin (Solve q ∷ log) [] p same = absurd (omega (arith, same))
logged_begin (Solve q ∷ log) (put ∷ puts) p same =
    ap (λ (l : List BenchRecord). records.Solve put.0 q put.1 ∷ l) (logged_begin log puts p (omega (arith, same)))

pub logged_expand : (log : List Applied) (puts : List Put) (n : ℕ) → solves log ≡ length puts
    → logged (log ++ Expand n ∷ []) puts ≡ logged log puts ++ records.Expand n ∷ []
logged_expand [] puts n same = refl
logged_expand (Begin q ∷ log) puts n same = ap (λ (l : List BenchRecord). records.Begin q ∷ l) (logged_expand log puts n same)
logged_expand (Expand m ∷ log) puts n same = ap (λ (l : List BenchRecord). records.Expand m ∷ l) (logged_expand log puts n same)
logged_expand (Solve q ∷ log) [] n same = absurd (omega (arith, same))
logged_expand (Solve q ∷ log) (put ∷ puts) n same =
    ap (λ (l : List BenchRecord). records.Solve put.0 q put.1 ∷ l) (logged_expand log puts n (omega (arith, same)))

pub logged_solve : (log : List Applied) (puts : List Put) (n : ℕ) (p : Board) (shown : List Certificate) → solves log ≡ length puts
    → logged (log ++ Solve p ∷ []) (puts ++ (n, shown) ∷ []) ≡ logged log puts ++ records.Solve n p shown ∷ []
logged_solve [] [] n p shown same = refl
logged_solve [] (put ∷ puts) n p shown same = absurd (omega (arith, same))
logged_solve (Begin q ∷ log) puts n p shown same = ap (λ (l : List BenchRecord). records.Begin q ∷ l) (logged_solve log puts n p shown same)
logged_solve (Expand m ∷ log) puts n p shown same = ap (λ (l : List BenchRecord). records.Expand m ∷ l) (logged_solve log puts n p shown same)
logged_solve (Solve q ∷ log) [] n p shown same = absurd (omega (arith, same))
logged_solve (Solve q ∷ log) (put ∷ puts) n p shown same =
    ap (λ (l : List BenchRecord). records.Solve put.0 q put.1 ∷ l) (logged_solve log puts n p shown (omega (arith, same)))

-- the batches on the shelf are those that the records show
pub batches_logged : (log : List Applied) (puts : List Put) → solves log ≡ length puts → batches_shown (logged log puts) ≡ puts
batches_logged [] [] same = refl
batches_logged [] (put ∷ puts) same = absurd (omega (arith, same))
batches_logged (Begin q ∷ log) puts same = batches_logged log puts same
batches_logged (Expand m ∷ log) puts same = batches_logged log puts same
batches_logged (Solve q ∷ log) [] same = absurd (omega (arith, same))
batches_logged (Solve q ∷ log) (put ∷ puts) same = ap (λ (l : List Put). put ∷ l) (batches_logged log puts (omega (arith, same)))

pub solves_begin : (log : List Applied) (p : Board) → solves (log ++ Begin p ∷ []) ≡ solves log
solves_begin [] p = refl
solves_begin (Begin q ∷ log) p = solves_begin log p
solves_begin (Expand m ∷ log) p = solves_begin log p
solves_begin (Solve q ∷ log) p = ap suc (solves_begin log p)

pub solves_expand : (log : List Applied) (n : ℕ) → solves (log ++ Expand n ∷ []) ≡ solves log
solves_expand [] n = refl
solves_expand (Begin q ∷ log) n = solves_expand log n
solves_expand (Expand m ∷ log) n = solves_expand log n
solves_expand (Solve q ∷ log) n = ap suc (solves_expand log n)

pub solves_solve : (log : List Applied) (p : Board) → solves (log ++ Solve p ∷ []) ≡ suc (solves log)
solves_solve [] p = refl
solves_solve (Begin q ∷ log) p = solves_solve log p
solves_solve (Expand m ∷ log) p = solves_solve log p
solves_solve (Solve q ∷ log) p = ap suc (solves_solve log p)

-- ---- counting work

count_cons : {X : Type 0} (t : X → Bool) (x : X) (xs : List X) → count_by t (x ∷ xs) ≡ cond (t x) 1 0 + count_by t xs
count_cons t x xs = sum_by-cons (λ y. cond (t y) 1 0) x xs

count_both : {X Y : Type 0} (t : X → Bool) (u : Y → Bool) (x : X) (y : Y) (xs : List X) (ys : List Y) → t x ≡ u y → count_by t xs ≡ count_by u ys
    → count_by t (x ∷ xs) ≡ count_by u (y ∷ ys)
count_both t u x y xs ys here rest = count_cons t x xs ∙ (ap (λ b. cond b 1 0 + count_by t xs) here ∙ (ap (λ n. cond (u y) 1 0 + n) rest ∙ sym (count_cons u y ys)))

pub work_logged : (log : List Applied) (puts : List Put) → solves log ≡ length puts → count_by is_work_applied log ≡ count_by is_work (logged log puts)
work_logged [] puts same = refl
work_logged (Begin q ∷ log) puts same = count_both is_work_applied is_work (Begin q) (records.Begin q) log (logged log puts) refl (work_logged log puts same)
work_logged (Expand m ∷ log) puts same = count_both is_work_applied is_work (Expand m) (records.Expand m) log (logged log puts) refl (work_logged log puts same)
work_logged (Solve q ∷ log) [] same = absurd (omega (arith, same))
work_logged (Solve q ∷ log) (put ∷ puts) same =
    count_both is_work_applied is_work (Solve q) (records.Solve put.0 q put.1) log (logged log puts) refl (work_logged log puts (omega (arith, same)))

-- ---- counting work behind one record more

work_by : (log : List Applied) (item : Applied) → count_by is_work_applied (log ++ item ∷ []) ≡ count_by is_work_applied log + cond (is_work_applied item) 1 0
work_by log item =
    let both : count_by is_work_applied (log ++ item ∷ []) ≡ count_by is_work_applied log + count_by is_work_applied (item ∷ []) =
    sum_by-append (λ y. cond (is_work_applied y) 1 0) log (item ∷ []) in
    let one : count_by is_work_applied (item ∷ []) ≡ cond (is_work_applied item) 1 0 + 0 = count_cons is_work_applied item [] in
    omega (arith, both, one)

pub work_begin : (log : List Applied) (p : Board) → count_by is_work_applied (log ++ Begin p ∷ []) ≡ count_by is_work_applied log
work_begin log p = let more = work_by log (Begin p) in omega (arith, more)

pub work_solve : (log : List Applied) (p : Board) → count_by is_work_applied (log ++ Solve p ∷ []) ≡ count_by is_work_applied log + 1
work_solve log p = let more = work_by log (Solve p) in omega (arith, more)

pub work_expand : (log : List Applied) (n : ℕ) → count_by is_work_applied (log ++ Expand n ∷ []) ≡ count_by is_work_applied log + 1
work_expand log n = let more = work_by log (Expand n) in omega (arith, more)
