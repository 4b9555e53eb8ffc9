-- What a search under a live lease gives is a result of its leaf.
use Rattle.std.proofs.Common.{◌≡◌, inl, inr, ℕ, List, [], ◌∷◌, map, get_or, refl, ap, sym, ◌∙◌, subst, ⊎_elim, arith}
use Rattle.std.specs.Prelude.{Bool, true, false, not, ◌&&◌, ◌||◌, Contains, All, Any, Option, IfSome}
use Rattle.std.proofs.lemmas.Bool.{true≢false, false≢true, eq-eqb, false_from_ne_true}
use Rattle.draughts_board.specs.declared.pieces.Side.{Side}
use Rattle.draughts_board.specs.declared.pieces.Side.TheVariants.{Black, White}
use Rattle.draughts_board.specs.Board.{Board, other}
use Rattle.draughts_board.specs.Game.{Wins, ShowsWin, ShowsHold, is_at_sight}
use Rattle.draughts_board.specs.Draughts.{draughts}
use Rattle.draughts_board.specs.Play.{successors_of}
use Rattle.draughts_board.proofs.Truth.{other-other}
use Rattle.proof_numbers.specs.Known.{Known, knows_win, knows_hold, includes}
use Rattle.proof_numbers.specs.Numbers.{is_resolved}
use Rattle.proof_tree.specs.Forest.{Node, node_at, node_numbers}
use Rattle.proof_tree.specs.Sound.{IsSoundNode}
use Rattle.proof_tree.proofs.EachNode.{EachNode-at}
use Rattle.strategy_certificate.specs.declared.claims.Claim.{Claim}
use Rattle.strategy_certificate.specs.declared.claims.Claim.TheVariants.{Win, Hold, Draw}
use Rattle.strategy_certificate.specs.declared.certificates.Certificate.{Certificate}
use Rattle.strategy_certificate.specs.Certificates.{IsGood, due_claims}
use Rattle.strategy_certificate.specs.Claims.{TellsWin, TellsHold, Settles, IsOfOnePart}
use Rattle.bench_records.specs.Texts.{ShowsEnough}
use Rattle.strategy_certificate.specs.declared.oracle.Answer.{Answer}
use Rattle.strategy_certificate.specs.Tables.{IsSoundTable}
use Rattle.certificate_checker.specs.Answers.{IsAnswer}
use Rattle.certificate_checker.specs.Sight.{IsAtSight, AreChildren}
use Rattle.certificate_checker.specs.declared.outcomes.Exhausted.{Exhausted as Search}
use Rattle.certificate_checker.specs.declared.outcomes.Outcome.TheVariants as outcomes
use Rattle.lease_table.specs.declared.leases.Lease.{Lease}
use Rattle.bench_records.specs.declared.records.BenchRecord.{BenchRecord}
use Rattle.bench_records.specs.declared.records.BenchRecord.TheVariants as records
use Rattle.certificate_checker.specs.Told.{facts_claimed, facts_shown}
use Rattle.bench_core.specs.States.{CoreState, IsFoundUnder, IsExhaustedAt, IsSoundRow, IsSoundBy}
use Rattle.bench_core.specs.Answers.{unkept}
use Rattle.bench_core.specs.Cores.{Core, IsResult, MayStage, IsOutcomeOf, record_of}
use Rattle.bench_core.specs.Benches.{record_staged, IsPrepared}
use Rattle.bench_core.specs.Results.{outcome_of, IsTold, staged_of}
use Rattle.bench_core.specs.declared.results.Found.{Found}
use Rattle.bench_core.specs.declared.results.Found.TheVariants.{Solved, Exhausted}
use Rattle.bench_core.proofs.AtSight.{win_seen, hold_seen, children_back}
use Rattle.bench_core.proofs.Lists.{Each-contains, Contains-cases}
use Rattle.certificate_checker.proofs.FactLemmas.{claim_told_win, claim_told_hold, win_left, win_right, hold_left, hold_right}

-- ---- a leaf that is open for a goal

resolved_win : (goal : Side) (x : Node) → knows_win goal x.own.facts ≡ true → is_resolved (node_numbers goal x) ≡ true
resolved_win goal x h = rw h refl

resolved_by : (b : Bool) (goal : Side) (x : Node) → knows_win goal x.own.facts ≡ b → knows_hold (other goal) x.own.facts ≡ true → is_resolved (node_numbers goal x) ≡ true
resolved_by true goal x w h = rw w refl
resolved_by false goal x w h = rw (w, h) refl

resolved_hold : (goal : Side) (x : Node) → knows_hold (other goal) x.own.facts ≡ true → is_resolved (node_numbers goal x) ≡ true
resolved_hold goal x h = resolved_by (knows_win goal x.own.facts) goal x refl h

-- ---- what is included

from_included : (a b : Bool) → (a || not b) ≡ true → b ≡ true → a ≡ true
from_included true b h t = refl
from_included false true h t = absurd (false≢true h)
from_included false false h t = t

-- the four tests of which all that is included is made
parts : (a b : Known) → includes a b ≡ true → ((a.black_wins || not b.black_wins) ≡ true) × (((a.white_wins || not b.white_wins) ≡ true) × (((a.black_holds || not b.black_holds) ≡ true) × ((a.white_holds || not b.white_holds) ≡ true)))
parts a b h = four (a.black_wins || not b.black_wins) (a.white_wins || not b.white_wins) (a.black_holds || not b.black_holds) (a.white_holds || not b.white_holds) h
  where
    four : (x y z w : Bool) → (x && y && z && w) ≡ true → (x ≡ true) × ((y ≡ true) × ((z ≡ true) × (w ≡ true)))
    four true true true true e = (refl, (refl, (refl, refl)))
    four true true true false e = absurd (false≢true e)
    four true true false w e = absurd (false≢true e)
    four true false z w e = absurd (false≢true e)
    four false y z w e = absurd (false≢true e)

included_win : (s : Side) (a b : Known) → includes a b ≡ true → knows_win s b ≡ true → knows_win s a ≡ true
included_win Black a b h t = from_included a.black_wins b.black_wins (parts a b h).0 t
included_win White a b h t = from_included a.white_wins b.white_wins (parts a b h).1.0 t

included_hold : (s : Side) (a b : Known) → includes a b ≡ true → knows_hold s b ≡ true → knows_hold s a ≡ true
included_hold Black a b h t = from_included a.black_holds b.black_holds (parts a b h).1.1.0 t
included_hold White a b h t = from_included a.white_holds b.white_holds (parts a b h).1.1.1 t

-- ---- what the certificates tell together

told_win : (s : Side) (found : List Certificate) (c : Certificate) → Contains found c → TellsWin s c.claim → knows_win s (facts_shown found) ≡ true
told_win s [] c there tells = absurd (omega (arith, there.1))
told_win s (d ∷ found) c there tells = ⊎_elim
    (λ same. win_left s (facts_claimed d.claim) (facts_shown found) (claim_told_win s d.claim (subst (λ (x : Certificate). TellsWin s x.claim) (sym same) tells)))
    (λ later. win_right s (facts_claimed d.claim) (facts_shown found) (told_win s found c later tells))
    (Contains-cases d c found there)

told_hold : (s : Side) (found : List Certificate) (c : Certificate) → Contains found c → TellsHold s c.claim → knows_hold s (facts_shown found) ≡ true
told_hold s [] c there tells = absurd (omega (arith, there.1))
told_hold s (d ∷ found) c there tells = ⊎_elim
    (λ same. hold_left s (facts_claimed d.claim) (facts_shown found) (claim_told_hold s d.claim (subst (λ (x : Certificate). TellsHold s x.claim) (sym same) tells)))
    (λ later. hold_right s (facts_claimed d.claim) (facts_shown found) (told_hold s found c later tells))
    (Contains-cases d c found there)

some_in : (P : Certificate → Type 0) (found : List Certificate) → Any P found → (c : Certificate) × (Contains found c × P c)
some_in P found h = (h.1, ((h.0, h.2, h.3), h.4))

settles_all : (goal : Side) (found : List Certificate) (leaf : Node) → Any (λ c. Settles goal c.claim) found → includes leaf.own.facts (facts_shown found) ≡ true → is_resolved (node_numbers goal leaf) ≡ true
settles_all goal found leaf some within = by (some_in (λ c. Settles goal c.claim) found some)
  where
    by : (c : Certificate) × (Contains found c × Settles goal c.claim) → is_resolved (node_numbers goal leaf) ≡ true
    by (c, (there, inl e)) = resolved_win goal leaf (included_win goal leaf.own.facts (facts_shown found) within (told_win goal found c there (subst (TellsWin goal) (sym e) refl)))
    by (c, (there, inr (inl e))) = resolved_hold goal leaf (included_hold (other goal) leaf.own.facts (facts_shown found) within (told_hold (other goal) found c there (subst (TellsHold (other goal)) (sym e) refl)))
    by (c, (there, inr (inr e))) = resolved_hold goal leaf (included_hold (other goal) leaf.own.facts (facts_shown found) within (told_hold (other goal) found c there (subst (TellsHold (other goal)) (sym e) refl)))

and_false : (b : Bool) → (b && false) ≡ false
and_false true = refl
and_false false = refl

one_unresolved : (goal : Side) (x : Node) → is_resolved (node_numbers goal x) ≡ false → (is_resolved (node_numbers Black x) && is_resolved (node_numbers White x)) ≡ false
one_unresolved Black x h = ap (λ b. b && is_resolved (node_numbers White x)) h
one_unresolved White x h = ap (λ b. is_resolved (node_numbers Black x) && b) h ∙ and_false (is_resolved (node_numbers Black x))

module _ (recs : List BenchRecord) (s : CoreState) (lease : Lease) (sound : IsSoundBy recs s) (there : Contains s.leases.rows (unkept lease)) where
  pub row : IsSoundRow s (unkept lease)
  row = Each-contains (IsSoundRow s) s.leases.rows (unkept lease) sound.rows there

  pub solved_found : (found : List Certificate) → All IsGood found → IsAnswer lease.pieces lease.goal lease.depth lease.position found → IsFoundUnder s lease (records.Solve lease.node lease.position found)
  solved_found found good answer =
      let l = row.leaf in
      let o = l.holds in
      record {
        own = eq-eqb lease.node lease.node refl;
        lawful = record {
          leaf = l.leaf;
          there = l.there;
          unexpanded = l.unexpanded;
          holds = record {
            position = sym o.position;
            shelved = λ i d low. let f = answer.each i d low in record { position = f.position; pieces = f.pieces ∙ row.pieces; good = good i d low; short = f.short };
            gains = false_from_ne_true (includes l.leaf.own.facts (facts_shown found)) (λ within. true≢false (sym (settles_all lease.goal found l.leaf answer.settles within) ∙ o.unresolved));
          };
        };
        found = record {
          leaf = l.leaf;
          there = l.there;
          unexpanded = l.unexpanded;
          holds = record {
            wins = λ side shows.
                let c = some_in (λ c. TellsWin side c.claim) found (answer.wins side (subst (λ (d : ℕ). ShowsWin draughts lease.pieces side d lease.position) (sym row.depth) (subst (λ (k : ℕ). ShowsWin draughts k side s.settings.depth lease.position) (sym row.pieces) (subst (λ (q : Board). ShowsWin draughts s.settings.pieces side s.settings.depth q) (sym o.position) shows)))) in
                win_right side l.leaf.own.facts (facts_shown found) (told_win side found c.0 c.1.0 c.1.1);
            holds = λ side shows.
                let c = some_in (λ c. TellsHold side c.claim) found (answer.holds side (subst (λ (d : ℕ). ShowsHold draughts lease.pieces side d [] lease.position) (sym row.depth) (subst (λ (k : ℕ). ShowsHold draughts k side s.settings.depth [] lease.position) (sym row.pieces) (subst (λ (q : Board). ShowsHold draughts s.settings.pieces side s.settings.depth [] q) (sym o.position) shows)))) in
                hold_right side l.leaf.own.facts (facts_shown found) (told_hold side found c.0 c.1.0 c.1.1);
          };
        };
      }

  -- what is not shown so far ahead is of a leaf that may be expanded
  exhausted_at : (e : Search) → IsOutcomeOf lease (outcomes.Exhausted e) → IsExhaustedAt s.settings.pieces lease.goal s.settings.depth row.leaf.leaf.own.position
  exhausted_at e out =
      let p = row.leaf.leaf.own.position in
      subst (λ (k : ℕ). IsExhaustedAt k lease.goal s.settings.depth p) (out.1.1.1 ∙ row.pieces)
      (subst (λ (g : Side). IsExhaustedAt e.pieces g s.settings.depth p) out.1.0
      (subst (λ (d : ℕ). IsExhaustedAt e.pieces e.goal d p) (out.1.1.0 ∙ row.depth)
      (subst (λ (q : Board). IsExhaustedAt e.pieces e.goal e.depth q) (out.0 ∙ row.leaf.holds.position)
      (record { no_win = e.no_win; no_hold = e.no_hold }))))

  pub exhausted_found : (e : Search) → IsOutcomeOf lease (outcomes.Exhausted e) → IsFoundUnder s lease (records.Expand lease.node)
  exhausted_found e out =
      let l = row.leaf in
      let k = s.settings.pieces in
      let p = l.leaf.own.position in
      let none = exhausted_at e out in
      record {
        own = eq-eqb lease.node lease.node refl;
        lawful = record {
          leaf = l.leaf;
          there = l.there;
          unexpanded = l.unexpanded;
          holds = record {
            unseen = false_from_ne_true (is_at_sight draughts k p) (λ sight. none.no_hold (hold_seen k (other lease.goal) s.settings.depth p sight
                (λ wins. none.no_win (win_seen k lease.goal s.settings.depth p sight (subst (λ (t : Side). Wins draughts t p) (other-other lease.goal) wins)))));
            unresolved = one_unresolved lease.goal l.leaf l.holds.unresolved;
          };
        };
        found = record { leaf = l.leaf; there = l.there; unexpanded = l.unexpanded; holds = none };
      }

  -- its children are the successors of the leaf, with their facts at sight
  pub exhausted_children : (answer : Board → Option Answer) → IsSoundTable draughts s.settings.pieces answer → (e : Search) → IsOutcomeOf lease (outcomes.Exhausted e)
      → IfSome (node_at lease.node s.forest) (λ x. AreChildren s.settings.pieces x.own.position e.children)
  exhausted_children answer table e out =
      let l = row.leaf in
      let k = s.settings.pieces in
      let p = l.leaf.own.position in
      let lawful = (EachNode-at IsSoundNode lease.node [] s.forest l.leaf sound.numbered.each l.there).1.lawful in
      let are : map (λ child. child.position) e.children ≡ successors_of p = e.successors ∙ ap successors_of (out.0 ∙ l.holds.position) in
      let some = subst (λ (n : ℕ). ∥ All (IsAtSight n) e.children ∥₁) (out.1.1.1 ∙ row.pieces) e.facts in
      subst (λ (o : Option Node). IfSome o (λ x. AreChildren k x.own.position e.children)) (sym l.there)
      (record { positions = are; facts = children_back k answer table p lawful e.children are some })

  -- a result of the lease's search is found under it, and what is staged of it is prepared
  pub result_found : (found : Found) → IsOutcomeOf lease (outcome_of found) → IsTold found → IsFoundUnder s lease (record_of lease (outcome_of found))
  result_found (Solved facts shown) own told = solved_found shown told.0 own
  result_found (Exhausted e) own told = exhausted_found e own

  pub result_prepared : (answer : Board → Option Answer) → IsSoundTable draughts s.settings.pieces answer → (found : Found) → IsOutcomeOf lease (outcome_of found) → IsTold found
      → IsPrepared s (staged_of lease lease.node found)
  result_prepared answer table (Solved facts shown) own told = told.1
  result_prepared answer table (Exhausted e) own told = exhausted_children answer table e own

-- what is staged of a result is its record, and a record of a search
pub staged_is : (lease : Lease) (found : Found) → record_staged (staged_of lease lease.node found) ≡ record_of lease (outcome_of found)
staged_is lease (Solved facts shown) = refl
staged_is lease (Exhausted e) = refl

pub may_stage : (core : Core) (lease : Lease) (found : Found) → IsResult core (record_of lease (outcome_of found)) → MayStage core (record_of lease (outcome_of found))
may_stage core lease (Solved facts shown) may = may
may_stage core lease (Exhausted e) may = may

-- ---- its text

one_part : (c : Claim) → IsOfOnePart c → due_claims c ≡ c ∷ []
one_part (Win s) h = refl
one_part (Hold s) h = refl
one_part Draw h = absurd h

-- the certificates that answer a search have a text
pub shows_enough : (k : ℕ) (goal : Side) (depth n : ℕ) (p : Board) (found : List Certificate) → All IsGood found → IsAnswer k goal depth p found → ShowsEnough k (records.Solve n p found)
shows_enough k goal depth n p found good answer = (
  answer.some,
  (
    answer.few,
    λ i d low. let f = answer.each i d low in record {
      position = f.position;
      table = f.pieces;
      claim = (good i d low).1.1.due ∙ one_part (get_or found i d).claim f.claim;
      ranks = f.short;
    },
  ),
)
