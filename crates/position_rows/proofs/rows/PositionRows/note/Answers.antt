use Rattle.std.proofs.Common.{◌≡◌, ◌≤◌, ◌+◌, ◌-◌, ◌∷◌, [], ◌++◌, min, List, length, length-append, not, refl, sym, ◌∙◌, ap, subst, vec_capacity, arith}
use Rattle.draughts_board.specs.Board.{Board}
use Rattle.position_rows.specs.Rows.{AreApart, IsRowAt, RowList}
use Rattle.position_rows.specs.Looks.{AreIndexed, HasNoRow}
use Rattle.position_rows.specs.Tables.{IsIndexOf, spare_of}
use Rattle.position_rows.proofs.ApartLemmas.{any_found, any_none, apart_pushed, place_is, place_none}
use Rattle.position_rows.proofs.IndexedLemmas.{indexed_moved, place_moved, tells_none}
use Rattle.position_rows.proofs.rows.PositionRows.note.Goals as goal

pub look_up-look-requires-clause-indexed : goal.look_up-look-requires-clause-indexed
look_up-look-requires-clause-indexed g c =
    subst (λ (rows : List (Board × g.row.E.Denot)). AreIndexed rows c.deref-2.result.now c.deref-3.result.now) (sym c.deref.ensures.value)
    (indexed_moved c.self.inside.rows.items c.self.inside.index.slots.items c.deref-2.result.now c.self.inside.index.nodes.items c.deref-3.result.now
    (sym c.deref-2.ensures.value) (sym c.deref-3.ensures.value) c.self.invariant.1.indexed)

pub returns-in-At-clause-place : goal.returns-in-At-clause-place
returns-in-At-clause-place g c =
    let entries = c.args.self.now.entries in
    let same : c.self.inside.rows.items ≡ c.args.self.now.entries = ap (λ (v : RowList g.row.E.Denot). v.entries) c.self.view_is ∙ c.reserve.ensures.entries in
    let there : IsRowAt c.args.self.now.entries c.in-At.i c.args.p =
    subst (λ (rows : List (Board × g.row.E.Denot)). IsRowAt rows c.in-At.i c.args.p) (c.deref.ensures.value ∙ same) c.in-At.ensures in
    sym (place_is entries (subst (λ (rows : List (Board × g.row.E.Denot)). AreApart rows) same c.self.invariant.0) c.in-At.i c.args.p there)

pub returns-in-At-clause-new : goal.returns-in-At-clause-new
returns-in-At-clause-new g c =
    let same : c.self.inside.rows.items ≡ c.args.self.now.entries = ap (λ (v : RowList g.row.E.Denot). v.entries) c.self.view_is ∙ c.reserve.ensures.entries in
    let there : IsRowAt c.args.self.now.entries c.in-At.i c.args.p =
    subst (λ (rows : List (Board × g.row.E.Denot)). IsRowAt rows c.in-At.i c.args.p) (c.deref.ensures.value ∙ same) c.in-At.ensures in
    sym (ap not (any_found c.args.self.now.entries c.in-At.i c.args.p there))

pub enter-requires : goal.enter-requires
enter-requires g c =
    let spare : min (vec_capacity c.self.inside.rows - length c.self.inside.rows.items) (spare_of c.self.inside.index) ≡ c.reserve.new.self.spare =
    ap (λ (v : RowList g.row.E.Denot). v.spare) c.self.view_is in
    let some : 1 ≤ c.reserve.new.self.spare = c.in_ok-reserve.ensures.room in
    record {
      index = subst (λ (rows : List (Board × g.row.E.Denot)). IsIndexOf rows c.self.inside.index) (sym c.deref-4.ensures.value) c.self.invariant.1;
      room = omega arith;
      place = place_moved c.deref.result.now c.deref-2.result.now c.self.inside.index.slots.items c.deref-3.result.now c.self.inside.index.nodes.items
          c.deref-2.ensures.value c.deref-3.ensures.value c.args.p c.look_up-look.result
          (tells_none c.deref.result.now c.deref-2.result.now c.deref-3.result.now c.args.p c.look_up-look.result c.in_default.not-At c.look_up-look.ensures) c.look_up-look.ensures;
    }

pub invariant_of-self : goal.invariant_of-self
invariant_of-self g c =
    let rows = c.self.inside.rows.items in
    let none : HasNoRow c.self.inside.rows.items c.args.p = subst (λ (es : List (Board × g.row.E.Denot)). HasNoRow es c.args.p) c.deref.ensures.value
    (tells_none c.deref.result.now c.deref-2.result.now c.deref-3.result.now c.args.p c.look_up-look.result c.in_default.not-At c.look_up-look.ensures) in
    subst (λ (es : List (Board × g.row.E.Denot)). AreApart es × IsIndexOf es c.enter.new.self) (sym c.push_reserved.ensures.items) (
      apart_pushed rows c.self.invariant.0 c.args.p c.args.e none,
      subst (λ (es : List (Board × g.row.E.Denot)). IsIndexOf (es ++ (c.args.p, c.args.e) ∷ []) c.enter.new.self) c.deref-4.ensures.value (c.enter.ensures.index c.args.e),
    )

pub returns : goal.returns
returns g c =
    let rows = c.self.inside.rows.items in
    let entries = c.args.self.now.entries in
    let none : HasNoRow c.self.inside.rows.items c.args.p = subst (λ (es : List (Board × g.row.E.Denot)). HasNoRow es c.args.p) c.deref.ensures.value
    (tells_none c.deref.result.now c.deref-2.result.now c.deref-3.result.now c.args.p c.look_up-look.result c.in_default.not-At c.look_up-look.ensures) in
    let same : c.self.inside.rows.items ≡ c.args.self.now.entries = ap (λ (v : RowList g.row.E.Denot). v.entries) c.self.view_is ∙ c.reserve.ensures.entries in
    let none_there : HasNoRow c.args.self.now.entries c.args.p = subst (λ (es : List (Board × g.row.E.Denot)). HasNoRow es c.args.p) same none in
    let long : c.len-i.result ≡ length c.self.inside.rows.items = omega (arith, c.len-i.ensures, c.self.inside.rows.ok.0) in
    let spare : min (vec_capacity c.self.inside.rows - length c.self.inside.rows.items) (spare_of c.self.inside.index) ≡ c.reserve.new.self.spare =
    ap (λ (v : RowList g.row.E.Denot). v.spare) c.self.view_is in
    let kept : c.args.self.now.spare ≤ c.reserve.new.self.spare = c.in_ok-reserve.ensures.kept in
    let left : spare_of c.self.inside.index ≤ spare_of c.enter.new.self + 1 = c.enter.ensures.room in
    let more : length c.push_reserved.new.self.items ≡ length c.self.inside.rows.items + 1 =
    ap length c.push_reserved.ensures.items ∙ length-append rows ((c.args.p, c.args.e) ∷ []) in
    let wide : vec_capacity c.push_reserved.new.self ≡ vec_capacity c.self.inside.rows = c.push_reserved.ensures.capacity in
    record {
      place = long ∙ (ap length same ∙ sym (place_none entries c.args.p none_there));
      new = sym (ap not (any_none entries c.args.p none_there));
      rows = c.push_reserved.ensures.items ∙ ap (λ (es : List (Board × g.row.E.Denot)). es ++ (c.args.p, c.args.e) ∷ []) same;
      apart = subst (λ (es : List (Board × g.row.E.Denot)). AreApart es) (sym c.push_reserved.ensures.items) (apart_pushed rows c.self.invariant.0 c.args.p c.args.e none);
      err = tt;
      succeeds = λ _. refl;
      room = omega arith;
    }
