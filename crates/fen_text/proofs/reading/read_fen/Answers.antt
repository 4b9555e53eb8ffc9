use Rattle.std.proofs.Common.{Ok, Err, refl, subst, sym}
use Rattle.fen_text.specs.Reading.{form_at}
use Rattle.fen_text.specs.Seen.{GivesSetup}
use Rattle.fen_text.proofs.Verdict.{fault_within}
use Rattle.fen_text.proofs.Answers.{Answers, fault_answers, held_twice, held_ok, held_refusal}
use Rattle.fen_text.proofs.reading.read_fen.Goals as goal

pub refusal_of-requires : goal.refusal_of-requires
refusal_of-requires c = fault_within c.args.text.now c.in-Err.fault c.in-Err.ensures

pub returns-in-Err : goal.returns-in-Err
returns-in-Err c =
    let a = subst (λ e. Answers c.args.text.now (Err e)) (sym c.refusal_of.ensures) (fault_answers c.args.text.now c.in-Err.fault c.in-Err.ensures) in
    record { ok = a.ok; printed = a.printed; refused = a.refused }

pub returns-in-Some : goal.returns-in-Some
returns-in-Some c =
    let read : GivesSetup (Ok c.in-Ok.found) (form_at c.args.text.now) = c.in-Ok.ensures in
    let a = held_twice c.args.text.now c.in-Ok.found.0 c.in-Ok.found.1.cells c.in-Ok.found.1.twice read.0 read.1 read.2 c.in-Some.square c.in-Some.is in
    record { ok = a.ok; printed = a.printed; refused = a.refused }

pub returns-in-Ok-place : goal.returns-in-Ok-place
returns-in-Ok-place c =
    let read : GivesSetup (Ok c.in-Ok.found) (form_at c.args.text.now) = c.in-Ok.ensures in
    let a = held_ok c.args.text.now c.in-Ok.found.0 c.in-Ok.found.1.cells c.in-Ok.found.1.twice read.0 read.1 read.2 c.in_default.is c.in-Ok-place.position c.in-Ok-place.ensures.ok (c.in-Ok-place.ensures.lawful.0 refl) in
    record { ok = a.ok; printed = a.printed; refused = a.refused }

pub returns-in-Err-place : goal.returns-in-Err-place
returns-in-Err-place c =
    let read : GivesSetup (Ok c.in-Ok.found) (form_at c.args.text.now) = c.in-Ok.ensures in
    let b = held_refusal c.args.text.now c.in-Ok.found.0 c.in-Ok.found.1.cells c.in-Ok.found.1.twice read.0 read.1 read.2 c.in_default.is (Err c.in-Err-place.refusal) c.in-Err-place.refusal refl c.in-Err-place.ensures.black c.in-Err-place.ensures.white c.in-Err-place.ensures.man in
    let a = subst (λ f. Answers c.args.text.now (Err f)) (sym c.from.ensures) b in
    record { ok = a.ok; printed = a.printed; refused = a.refused }
