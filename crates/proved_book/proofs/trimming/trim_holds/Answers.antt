use Rattle.std.proofs.Common.{◌∙◌, ◌+◌, None, ap, sym, subst, refl, get_or, take, arith}
use Rattle.std.proofs.lemmas.List.{get_or_default}
use Rattle.strategy_certificate.specs.Parts.{HoldList}
use Rattle.proved_book.specs.Walking.{ArePlacesLedTo}
use Rattle.proved_book.proofs.Gathering.{AreAt, next_place, none_yet, led_kept}
use Rattle.proved_book.proofs.trimming.trim_holds.Goals as goal

pub add-requires : goal.add-requires
add-requires c =
    let rows = c.args.part.now.entries in
    let places = c.as_slice-place-items.result.now in
    let led : ArePlacesLedTo c.args.part.now.entries c.args.p.now places = subst (ArePlacesLedTo c.args.part.now.entries c.args.p.now) (sym c.as_slice-place-items.ensures.keys) c.in_ok-places.ensures in
    record {
      absent = none_yet rows c.args.part.now.entries c.args.p.now places led.rising c.side.ensures.valid.distinct c.loop-place.place-index (get_or places c.loop-place.place-index 0) c.loop-place.kept.entries c.entry-q.result.0 c.entry-q.result.1
          c.loop-place-test.true (get_or_default places c.loop-place.place-index (get_or places c.loop-place.place-index 0) 0 c.loop-place-test.true) c.loop-place.invariant.entries c.entry-q.ensures.value;
    }

pub loop-place-preserved : goal.loop-place-preserved
loop-place-preserved c =
    let rows = c.args.part.now.entries in
    let places = c.as_slice-place-items.result.now in
    record {
      side = ap (λ (x : HoldList). x.side) c.in_ok-add.ensures.ok ∙ c.loop-place.invariant.side;
      entries = subst (AreAt rows (take (c.loop-place.place-index + 1) places)) (sym (ap (λ (x : HoldList). x.entries) c.in_ok-add.ensures.ok))
          (next_place rows c.args.part.now.entries c.args.p.now places c.loop-place.place-index (get_or places c.loop-place.place-index 0) c.loop-place.kept.entries c.entry-q.result
          c.loop-place-test.true (get_or_default places c.loop-place.place-index (get_or places c.loop-place.place-index 0) 0 c.loop-place-test.true) c.loop-place.invariant.entries c.entry-q.ensures.value);
    }

pub returns : goal.returns
returns c =
    let rows = c.args.part.now.entries in
    let places = c.as_slice-place-items.result.now in
    let led : ArePlacesLedTo c.args.part.now.entries c.args.p.now places = subst (ArePlacesLedTo c.args.part.now.entries c.args.p.now) (sym c.as_slice-place-items.ensures.keys) c.in_ok-places.ensures in
    record {
      side = c.loop-place.invariant.side;
      entries = led_kept rows c.args.part.now.entries c.args.p.now places (c.args.p.now, None) refl
          (λ i q at. at) led c.loop-place.place-index c.loop-place.kept.entries (let past = c.loop-place-test.false in omega arith) c.loop-place.invariant.entries;
    }
