-- A book that takes over one more good part is a book.
use Rattle.std.proofs.Common.{◌≡◌, ◌≤◌, ◌<◌, ℕ, inl, inr, List, [], ◌∷◌, Option, Result, Ok, Err, refl, sym, ◌∙◌, ap, subst, map, length, get_or, take, arith}
use Rattle.std.specs.Prelude.{All, Contains, is_none, OnOk, OnErr}
use Rattle.std.proofs.lemmas.List.Elements.{All-weaker, All-append, All-map, All-filter, All-nil, All-contains}
use Rattle.std.proofs.Math.Seq.{take-append_seam}
use Rattle.std.proofs.lemmas.Map.Entries.{All-lookup}
use Rattle.draughts_board.specs.Board.{Board, same_board}
use Rattle.draughts_board.specs.declared.pieces.Side.{Side}
use Rattle.draughts_board.specs.declared.pieces.Side.TheVariants.{Black, White}
use Rattle.draughts_board.proofs.Members.{Contains-nil}
use Rattle.strategy_certificate.specs.declared.entries.WinEntry.{WinEntry}
use Rattle.strategy_certificate.specs.declared.entries.TheConstants.{MOST_FOUND_RANK}
use Rattle.strategy_certificate.specs.declared.claims.Claim.{Claim}
use Rattle.strategy_certificate.specs.declared.claims.Claim.TheVariants.{Win, Hold, Draw}
use Rattle.strategy_certificate.specs.declared.certificates.Part.{Part}
use Rattle.strategy_certificate.specs.declared.certificates.Part.TheVariants as part
use Rattle.strategy_certificate.specs.declared.certificates.Certificate.{Certificate}
use Rattle.strategy_certificate.specs.Tables.{IsTableSize}
use Rattle.strategy_certificate.specs.Parts.{WinList, HoldList, HasDistinctPositions, entry_of, improved, added_rows, merged_wins, merged_holds}
use Rattle.strategy_certificate.specs.Certificates.{claim_of, due_claims, IsGood, IsGoodPart}
use Rattle.strategy_certificate.specs.Claims.{HasShortRanks}
use Rattle.strategy_certificate.specs.Laws.{merged_win_list, merged_hold_list}
use Rattle.strategy_certificate.proofs.MergeLemmas.{pick-all}
use Rattle.strategy_certificate.proofs.GoodMerges.{merged_wins_are_good, merged_holds_are_good}
use Rattle.strategy_certificate.proofs.PartLemmas.{good_by_each_table}
use Rattle.strategy_certificate.proofs.RankLemmas.{short_parts_are_good}
use Rattle.strategy_certificate.specs.ShortRanks.{IsShortened}
use Rattle.proved_book.specs.Books.{Strategies, wins_of, holds_of, KnowsWin, KnowsHold, HasTable, IsBook, empty_book, with_win, with_hold, IsGoodWinByEach, IsGoodHoldByEach, IsGoodByEach, IsKeptAs, TakesOver, TakesOverAll}
use Rattle.proved_book.specs.Laws.{BooksGrow}

-- ---- ranks

abbrev IsShortRow : Board × WinEntry → Type 0
IsShortRow row = row.1.rank ≤ MOST_FOUND_RANK

short_improved : (from : List (Board × WinEntry)) → All IsShortRow from → (row : Board × WinEntry) → IsShortRow row → IsShortRow (improved from row)
short_improved from all row short =
    pick-all (λ (e : WinEntry). e.rank ≤ MOST_FOUND_RANK) row.1 (entry_of from row.0) short
    (All-lookup (λ (e : WinEntry). e.rank ≤ MOST_FOUND_RANK) (same_board row.0) from all)

short_merged : (into from : List (Board × WinEntry)) → All IsShortRow into → All IsShortRow from → All IsShortRow (merged_wins into from)
short_merged into from all more =
    All-append IsShortRow (map (improved from) into) (added_rows into from)
    (All-map IsShortRow (improved from) into (All-weaker IsShortRow (λ row. IsShortRow (improved from row)) (short_improved from more) into all))
    (All-filter (λ row. is_none (entry_of into row.0)) IsShortRow from more)

-- ---- parts

module _ (b : Strategies) (book : IsBook b) (table : HasTable b.pieces) (w : WinList) (distinct : HasDistinctPositions w.entries) (good : IsGoodWinByEach b.pieces w) (short : HasShortRanks (part.Win w)) where
  win_sides : (s t : Side) → w.side ≡ s → (wins_of t (with_win s w b)).side ≡ t
  win_sides Black Black side = book.win_sides Black
  win_sides Black White side = book.win_sides White
  win_sides White Black side = book.win_sides Black
  win_sides White White side = book.win_sides White

  hold_sides_stay : (s t : Side) → (holds_of t (with_win s w b)).side ≡ t
  hold_sides_stay Black Black = book.hold_sides Black
  hold_sides_stay Black White = book.hold_sides White
  hold_sides_stay White Black = book.hold_sides Black
  hold_sides_stay White White = book.hold_sides White

  merged : (s : Side) → w.side ≡ s → IsGoodWinByEach b.pieces (merged_win_list (wins_of s b) w)
  merged s side answer sound = (merged_wins_are_good answer (wins_of s b) w (book.win_sides s ∙ sym side) distinct (book.good_wins s answer sound) (good answer sound)).0

  good_wins_with : (s t : Side) → w.side ≡ s → IsGoodWinByEach b.pieces (wins_of t (with_win s w b))
  good_wins_with Black Black side = merged Black side
  good_wins_with Black White side = book.good_wins White
  good_wins_with White Black side = book.good_wins Black
  good_wins_with White White side = merged White side

  good_holds_stay : (s t : Side) → IsGoodHoldByEach b.pieces (holds_of t (with_win s w b))
  good_holds_stay Black Black = book.good_holds Black
  good_holds_stay Black White = book.good_holds White
  good_holds_stay White Black = book.good_holds Black
  good_holds_stay White White = book.good_holds White

  short_parts : (s t : Side) → HasShortRanks (part.Win (wins_of t (with_win s w b)))
  short_parts Black Black = short_merged b.black_wins.entries w.entries (book.short Black) short
  short_parts Black White = book.short White
  short_parts White Black = book.short Black
  short_parts White White = short_merged b.white_wins.entries w.entries (book.short White) short

  pub book_with_win : (s : Side) → w.side ≡ s → IsBook (with_win s w b)
  book_with_win Black side = record { size = book.size; table = λ t p known. table; win_sides = λ t. win_sides Black t side; hold_sides = hold_sides_stay Black; good_wins = λ t. good_wins_with Black t side; good_holds = good_holds_stay Black; short = short_parts Black }
  book_with_win White side = record { size = book.size; table = λ t p known. table; win_sides = λ t. win_sides White t side; hold_sides = hold_sides_stay White; good_wins = λ t. good_wins_with White t side; good_holds = good_holds_stay White; short = short_parts White }

module _ (b : Strategies) (book : IsBook b) (table : HasTable b.pieces) (h : HoldList) (good : IsGoodHoldByEach b.pieces h) where
  hold_sides : (s t : Side) → (holds_of t (with_hold s h b)).side ≡ t
  hold_sides Black Black = book.hold_sides Black
  hold_sides Black White = book.hold_sides White
  hold_sides White Black = book.hold_sides Black
  hold_sides White White = book.hold_sides White

  win_sides_stay : (s t : Side) → (wins_of t (with_hold s h b)).side ≡ t
  win_sides_stay Black Black = book.win_sides Black
  win_sides_stay Black White = book.win_sides White
  win_sides_stay White Black = book.win_sides Black
  win_sides_stay White White = book.win_sides White

  merged_hold : (s : Side) → h.side ≡ s → IsGoodHoldByEach b.pieces (merged_hold_list (holds_of s b) h)
  merged_hold s side answer sound = (merged_holds_are_good answer (holds_of s b) h (book.hold_sides s ∙ sym side) (book.good_holds s answer sound) (good answer sound)).0

  good_holds_with : (s t : Side) → h.side ≡ s → IsGoodHoldByEach b.pieces (holds_of t (with_hold s h b))
  good_holds_with Black Black side = merged_hold Black side
  good_holds_with Black White side = book.good_holds White
  good_holds_with White Black side = book.good_holds Black
  good_holds_with White White side = merged_hold White side

  good_wins_stay : (s t : Side) → IsGoodWinByEach b.pieces (wins_of t (with_hold s h b))
  good_wins_stay Black Black = book.good_wins Black
  good_wins_stay Black White = book.good_wins White
  good_wins_stay White Black = book.good_wins Black
  good_wins_stay White White = book.good_wins White

  short_stay : (s t : Side) → HasShortRanks (part.Win (wins_of t (with_hold s h b)))
  short_stay Black Black = book.short Black
  short_stay Black White = book.short White
  short_stay White Black = book.short Black
  short_stay White White = book.short White

  pub book_with_hold : (s : Side) → h.side ≡ s → IsBook (with_hold s h b)
  book_with_hold Black side = record { size = book.size; table = λ t p known. table; win_sides = win_sides_stay Black; hold_sides = hold_sides Black; good_wins = good_wins_stay Black; good_holds = λ t. good_holds_with Black t side; short = short_stay Black }
  book_with_hold White side = record { size = book.size; table = λ t p known. table; win_sides = win_sides_stay White; hold_sides = hold_sides White; good_wins = good_wins_stay White; good_holds = λ t. good_holds_with White t side; short = short_stay White }

pub books_grow : BooksGrow
books_grow = record {
  win = λ b book table w distinct good short. book_with_win b book table w distinct good short w.side refl;
  hold = λ b book table h good. book_with_hold b book table h good h.side refl;
}

-- ---- an empty book

no_win_entry : (k : ℕ) (s : Side) (p : Board) → KnowsWin (empty_book k) s p → ⊥
no_win_entry k Black p (e, there) = Contains-nil (p, e) there
no_win_entry k White p (e, there) = Contains-nil (p, e) there

no_entry : (k : ℕ) (s : Side) (p : Board) → KnowsHold (empty_book k) s p → ⊥
no_entry k s p (inl win) = no_win_entry k s p win
no_entry k Black p (inr (e, there)) = Contains-nil (p, e) there
no_entry k White p (inr (e, there)) = Contains-nil (p, e) there

pub empty_is_book : (k : ℕ) → IsTableSize k → IsBook (empty_book k)
empty_is_book k size = record {
  size = size;
  table = λ s p known. absurd (no_entry k s p known);
  win_sides = win_side;
  hold_sides = hold_side;
  good_wins = good_wins;
  good_holds = good_holds;
  short = short;
}
  where
    win_side : (s : Side) → (wins_of s (empty_book k)).side ≡ s
    win_side Black = refl
    win_side White = refl

    hold_side : (s : Side) → (holds_of s (empty_book k)).side ≡ s
    hold_side Black = refl
    hold_side White = refl

    good_wins : (s : Side) → IsGoodWinByEach k (wins_of s (empty_book k))
    good_wins Black answer sound = All-nil _
    good_wins White answer sound = All-nil _

    good_holds : (s : Side) → IsGoodHoldByEach k (holds_of s (empty_book k))
    good_holds Black answer sound = All-nil _
    good_holds White answer sound = All-nil _

    short : (s : Side) → HasShortRanks (part.Win (wins_of s (empty_book k)))
    short Black = All-nil _
    short White = All-nil _

-- ---- parts of a certificate

-- a part of a good certificate is good by each table
pub good_by_each : (c : Certificate) → IsGood c → (one : Part) → Contains c.parts one → IsGoodByEach c.pieces one
good_by_each c good (part.Win w) there = λ answer sound.
    (All-contains (IsGoodPart answer c.position) c.parts (part.Win w) (good_by_each_table c answer sound good).parts there).0
good_by_each c good (part.Hold h) there = λ answer sound.
    (All-contains (IsGoodPart answer c.position) c.parts (part.Hold h) (good_by_each_table c answer sound good).parts there).0

-- they are one, or those of a draw
pub record AreOneOrTwo (parts : List Part) : Type 0 where
  pub some : 1 ≤ length parts
  pub alone : length parts ≡ 1 → (one : Part) → one ≡ get_or parts 0 one → parts ≡ one ∷ []
  pub more : (length parts ≡ 1 → ⊥) → 2 ≤ length parts
  pub two : (length parts ≡ 1 → ⊥) → (one another : Part) → one ≡ get_or parts 0 one → another ≡ get_or parts 1 another
      → (claim_of one ≡ Hold Black) × ((claim_of another ≡ Hold White) × (parts ≡ one ∷ another ∷ []))

abbrev IsDue : List Part → Claim → Type 0
IsDue parts claim = map claim_of parts ≡ due_claims claim

no_claims : (one : Claim) (more : List Claim) → ◌≡◌ {A = List Claim} [] (one ∷ more) → ⊥
no_claims one more h = cc

some_due : (claim : Claim) → IsDue [] claim → ⊥
some_due (Win s) due = no_claims (Win s) [] due
some_due (Hold s) due = no_claims (Hold s) [] due
some_due Draw due = no_claims (Hold Black) (Hold White ∷ []) due

few_due : (claim : Claim) → length (due_claims claim) ≤ 2
few_due (Win s) = omega arith
few_due (Hold s) = omega arith
few_due Draw = omega arith

draw_due : (one another : Part) (claim : Claim) → IsDue (one ∷ another ∷ []) claim → (claim_of one ≡ Hold Black) × (claim_of another ≡ Hold White)
draw_due one another (Win s) due = absurd (let long = ap length due in omega arith)
draw_due one another (Hold s) due = absurd (let long = ap length due in omega arith)
draw_due one another Draw due = (ap (λ (cs : List Claim). get_or cs 0 Draw) due, ap (λ (cs : List Claim). get_or cs 1 Draw) due)

pub one_or_two : (parts : List Part) (claim : Claim) → IsDue parts claim → AreOneOrTwo parts
one_or_two [] claim due = absurd (some_due claim due)
one_or_two (first ∷ []) claim due = record {
  some = omega arith;
  alone = λ long one is. ap (λ (x : Part). x ∷ []) (sym is);
  more = λ other. absurd (other refl);
  two = λ other. absurd (other refl);
}
one_or_two (first ∷ second ∷ []) claim due = record {
  some = omega arith;
  alone = λ long. absurd (omega arith);
  more = λ other. omega arith;
  two = λ other one another is also.
      let both = draw_due first second claim due in
      (ap claim_of is ∙ both.0, (ap claim_of also ∙ both.1, λ i. sym is i ∷ sym also i ∷ []));
}
one_or_two (first ∷ second ∷ third ∷ more) claim due =
    absurd (let long = ap length due in let few = few_due claim in omega arith)

-- what came of a call that leaves the old value where it fails
pub either_way : {X T E : Type 0} (P : X → Type 0) (r : Result T E) (new more old : X) → OnOk r (new ≡ more) → OnErr r (new ≡ old) → P more → P old → P new
either_way P (Ok x) new more old ok err there here = subst P (sym ok) there
either_way P (Err e) new more old ok err there here = subst P (sym err) here

pub map_ok : {T E : Type 0} {P Q : Type 0} (r : Result T E) → (P → Q) → OnOk r P → OnOk r Q
map_ok (Ok v) f h = f h
map_ok (Err e) f h = tt

-- ---- taking over

-- four empty parts are a book
pub made_empty : (k : ℕ) → IsTableSize k → (a b : WinList) (x y : HoldList) → a ≡ record { side = Black; entries = [] } → b ≡ record { side = White; entries = [] }
    → x ≡ record { side = Black; entries = [] } → y ≡ record { side = White; entries = [] }
    → IsBook (record { pieces = k; black_wins = a; white_wins = b; black_holds = x; white_holds = y })
made_empty k size a b x y p q r s =
    subst IsBook (λ i. record { pieces = k; black_wins = sym p i; white_wins = sym q i; black_holds = sym r i; white_holds = sym s i }) (empty_is_book k size)

kept_side : (w kept : WinList) → IsKeptAs w kept → kept.side ≡ w.side
kept_side w kept (inl (short, same)) = ap (λ (x : WinList). x.side) same
kept_side w kept (inr (long, by)) = ap (λ (x : WinList). x.side) by.is

pub takes_win : (b after : Strategies) (one : Part) (w kept : WinList) → one ≡ part.Win w → IsKeptAs w kept → after ≡ with_win kept.side kept b → TakesOver b one after
takes_win b after one w kept is as_kept made =
    subst (λ (x : Part). TakesOver b x after) (sym is) (kept, (as_kept, made ∙ ap (λ (s : Side). with_win s kept b) (kept_side w kept as_kept)))

pub takes_hold : (b after : Strategies) (one : Part) (h : HoldList) → one ≡ part.Hold h → after ≡ with_hold h.side h b → TakesOver b one after
takes_hold b after one h is made = subst (λ (x : Part). TakesOver b x after) (sym is) made

pub takes_one : (b after : Strategies) (one : Part) (parts : List Part) → parts ≡ one ∷ [] → TakesOver b one after → TakesOverAll b parts after
takes_one b after one parts is taken = subst (λ (xs : List Part). TakesOverAll b xs after) (sym is) (after, (taken, refl))

pub takes_both : (b after : Strategies) (one another : Part) (h w : HoldList) → one ≡ part.Hold h → another ≡ part.Hold w → h.side ≡ Black → w.side ≡ White
    → after ≡ with_hold White w (with_hold Black h b) → TakesOverAll b (one ∷ another ∷ []) after
takes_both b after one another h w is also black white made =
    subst (λ (x : Part). TakesOverAll b (x ∷ another ∷ []) after) (sym is)
    (subst (λ (x : Part). TakesOverAll b (part.Hold h ∷ x ∷ []) after) (sym also)
    (with_hold h.side h b, (refl, (with_hold w.side w (with_hold h.side h b), (refl, made ∙ (λ i. with_hold (sym white i) w (with_hold (sym black i) h b)))))))

few : (k : ℕ) → IsTableSize k → k ≤ 3
few k (inl is) = omega arith
few k (inr is) = omega arith

-- with short ranks it is still good by each table
pub short_by_each : (k : ℕ) → IsTableSize k → (w kept : WinList) → IsShortened w kept → IsGoodWinByEach k w → IsGoodWinByEach k kept
short_by_each k size w kept by good answer sound = (short_parts_are_good k answer (few k size) sound w kept by (good answer sound)).0

win_keeps : (s : Side) (w : WinList) (b : Strategies) → (with_win s w b).pieces ≡ b.pieces
win_keeps Black w b = refl
win_keeps White w b = refl

hold_keeps : (s : Side) (h : HoldList) (b : Strategies) → (with_hold s h b).pieces ≡ b.pieces
hold_keeps Black h b = refl
hold_keeps White h b = refl

one_keeps : (b after : Strategies) (one : Part) → TakesOver b one after → after.pieces ≡ b.pieces
one_keeps b after (part.Win w) (kept, (as_kept, made)) = ap (λ (x : Strategies). x.pieces) made ∙ win_keeps w.side kept b
one_keeps b after (part.Hold h) made = ap (λ (x : Strategies). x.pieces) made ∙ hold_keeps h.side h b

-- the part's side, by its claim
pub hold_side : (one : Part) (h : HoldList) (s : Side) → one ≡ part.Hold h → claim_of one ≡ Hold s → h.side ≡ s
hold_side one h s is claims = let same : Hold h.side ≡ Hold s = ap claim_of (sym is) ∙ claims in cc

-- the number of pieces stays
pub all_keep : (b after : Strategies) (parts : List Part) → TakesOverAll b parts after → after.pieces ≡ b.pieces
all_keep b after [] same = ap (λ (x : Strategies). x.pieces) same
all_keep b after (one ∷ more) (next, (taken, rest)) = all_keep next after more rest ∙ one_keeps b next one taken

-- a merged part, cut back to what stood before
pub cut_back : (into from now cut : HoldList) → now ≡ record into { entries = merged_holds into.entries from.entries } → cut ≡ record now { entries = take (length into.entries) now.entries } → cut ≡ into
cut_back into from now cut is back =
    back
    ∙ (ap (λ (x : HoldList). record x { entries = take (length into.entries) x.entries }) is
    ∙ ap (λ (rows : List (Board × Option (List ℕ))). record into { entries = rows }) (take-append_seam into.entries (added_rows into.entries from.entries)))

-- the parts of a certificate that was taken out
module _ (c certificate : Certificate) (value : certificate ≡ c) (good : IsGood c) (k : ℕ) (pieces : c.pieces ≡ k) (slice : List Part) (are : slice ≡ certificate.parts) where
  parts_are : slice ≡ c.parts
  parts_are = are ∙ ap (λ (x : Certificate). x.parts) value

  pub due_parts : AreOneOrTwo slice
  due_parts = subst AreOneOrTwo (sym parts_are) (one_or_two c.parts c.claim good.1.1.due)

  pub part_good : (i : ℕ) (one : Part) → i < length slice → one ≡ get_or slice i one → IsGoodByEach k one
  part_good i one within at =
      subst (λ (n : ℕ). IsGoodByEach n one) pieces
      (good_by_each c good one (subst (λ (xs : List Part). Contains xs one) parts_are (i, within, sym at)))

  pub takes_one_of : (one : Part) (b after : Strategies) → length slice ≡ 1 → one ≡ get_or slice 0 one → TakesOver b one after → TakesOverAll b c.parts after
  takes_one_of one b after long at taken = takes_one b after one c.parts (sym parts_are ∙ due_parts.alone long one at) taken

  pub takes_two_of : (one another : Part) (b after : Strategies) → (length slice ≡ 1 → ⊥) → one ≡ get_or slice 0 one → another ≡ get_or slice 1 another → TakesOverAll b (one ∷ another ∷ []) after
      → TakesOverAll b c.parts after
  takes_two_of one another b after more at also taken =
      subst (λ (xs : List Part). TakesOverAll b xs after) (sym (due_parts.two more one another at also).1.1 ∙ parts_are) taken
