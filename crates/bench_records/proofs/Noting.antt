-- A format with numbers for positions, of two formats one behind the other.
use Rattle.std.proofs.Common.{◌≡◌, List, refl, sym, ◌∙◌}
use Rattle.draughts_board.specs.Board.{Board}
use Rattle.bench_records.specs.Formats.{Format, done, field, byte, short, long, position, place, ◌>>=◌}
use Rattle.bench_records.specs.Names.{noting, number_order}

pub bind-assoc : {A B C : Type 0} (f : Format A) (g : A → Format B) (h : B → Format C) → (f >>= g) >>= h ≡ f >>= (λ a. g a >>= h)
bind-assoc (done a) g h = refl
bind-assoc (field f next) g h = λ i. field f (λ v. bind-assoc (next v) g h i)

pub bind-done : {A : Type 0} (f : Format A) → f >>= (λ a. done a) ≡ f
bind-done (done a) = refl
bind-done (field f next) = λ i. field f (λ v. bind-done (next v) i)

pub noting-bind : {A B : Type 0} (named : List Board) (f : Format A) (g : A → Format B) → noting named (f >>= g) ≡ noting named f >>= (λ r. noting r.1 (g r.0))
noting-bind named (done a) g = refl
noting-bind named (field (byte test) next) g = λ i. field (byte test) (λ n. noting-bind named (next n) g i)
noting-bind named (field short next) g = λ i. field short (λ n. noting-bind named (next n) g i)
noting-bind named (field (long most) next) g = λ i. field (long most) (λ n. noting-bind named (next n) g i)
noting-bind named (field (place list others) next) g = λ i. field (place list others) (λ n. noting-bind named (next n) g i)
noting-bind named (field (position others) next) g =
    (λ i. number_order named others >>= (λ r. noting-bind r.1 (next r.0) g i))
    ∙ sym (bind-assoc (number_order named others) (λ r. noting r.1 (next r.0)) (λ r. noting r.1 (g r.0)))
