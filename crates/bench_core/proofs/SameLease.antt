-- Leases that pass the test of being the same are, and only these.
use Rattle.std.proofs.Common.{◌≡◌, refl, subst}
use Rattle.std.specs.Prelude.{Bool, true, false, ◌&&◌, eqb}
use Rattle.std.proofs.lemmas.Bool.{and_parts, false≢true, eqb-true, eq-eqb}
use denote.Enum.Bare.{sameb}
use Rattle.draughts_board.specs.contracts.pieces.Side as side
use Rattle.draughts_board.specs.declared.pieces.Side.{Side}
use Rattle.draughts_board.specs.declared.pieces.Side.TheVariants.{Black, White}
use Rattle.draughts_board.specs.Board.{same_board}
use Rattle.draughts_board.specs.Same.{same_board-Decides}
use Rattle.lease_table.specs.declared.leases.Lease.{Lease}

side_true : (a b : Side) → sameb side.the_type a b ≡ true → a ≡ b
side_true Black Black h = refl
side_true White White h = refl
side_true Black White h = absurd (false≢true h)
side_true White Black h = absurd (false≢true h)

side_refl : (a : Side) → sameb side.the_type a a ≡ true
side_refl Black = refl
side_refl White = refl

abbrev pub is_same : Lease → Lease → Bool
is_same a b = eqb a.id b.id && (eqb a.node b.node && (same_board a.position b.position && (sameb side.the_type a.goal b.goal && (eqb a.depth b.depth && (eqb a.pieces b.pieces && eqb a.worker b.worker)))))

both : (a b : Bool) → a ≡ true → b ≡ true → (a && b) ≡ true
both true b h k = k
both false b h k = absurd (false≢true h)

pub same_true : (a b : Lease) → is_same a b ≡ true → a ≡ b
same_true a b h =
    let h1 = and_parts (eqb a.id b.id) _ h in
    let h2 = and_parts (eqb a.node b.node) _ h1.1 in
    let h3 = and_parts (same_board a.position b.position) _ h2.1 in
    let h4 = and_parts (sameb side.the_type a.goal b.goal) _ h3.1 in
    let h5 = and_parts (eqb a.depth b.depth) _ h4.1 in
    let h6 = and_parts (eqb a.pieces b.pieces) (eqb a.worker b.worker) h5.1 in
    λ i. record {
      id = eqb-true a.id b.id h1.0 i;
      node = eqb-true a.node b.node h2.0 i;
      position = (same_board-Decides a.position b.position).0 h3.0 i;
      goal = side_true a.goal b.goal h4.0 i;
      depth = eqb-true a.depth b.depth h5.0 i;
      pieces = eqb-true a.pieces b.pieces h6.0 i;
      worker = eqb-true a.worker b.worker h6.1 i;
    }

same_refl : (a : Lease) → is_same a a ≡ true
same_refl a =
    both (eqb a.id a.id) _ (eq-eqb a.id a.id refl)
    (both (eqb a.node a.node) _ (eq-eqb a.node a.node refl)
    (both (same_board a.position a.position) _ ((same_board-Decides a.position a.position).1 refl)
    (both (sameb side.the_type a.goal a.goal) _ (side_refl a.goal)
    (both (eqb a.depth a.depth) _ (eq-eqb a.depth a.depth refl)
    (both (eqb a.pieces a.pieces) (eqb a.worker a.worker) (eq-eqb a.pieces a.pieces refl) (eq-eqb a.worker a.worker refl))))))

pub same_from : (a b : Lease) → a ≡ b → is_same a b ≡ true
same_from a b e = subst (λ x. is_same a x ≡ true) e (same_refl a)
