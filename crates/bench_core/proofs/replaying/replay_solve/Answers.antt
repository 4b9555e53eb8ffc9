use Rattle.std.proofs.Common.{◌≡◌, [], ◌∷◌, ◌++◌, refl, ap, sym, ◌∙◌, subst}
use Rattle.std.specs.Prelude.{All, IfSome}
use Rattle.proof_numbers.specs.Facts.{known}
use Rattle.proof_numbers.specs.Known.{joined, IsConsistent}
use Rattle.proof_tree.specs.Forest.{Forest, node_at}
use Rattle.proof_tree.specs.Changes.{with_facts}
use Rattle.strategy_certificate.specs.declared.certificates.Certificate.{Certificate}
use Rattle.bench_records.specs.declared.records.BenchRecord.TheVariants as records
use Rattle.bench_core.specs.Records.{batches_shown}
use Rattle.certificate_checker.specs.Told.{facts_shown}
use Rattle.bench_core.proofs.CertifiedFacts.{shelved_about}
use Rattle.bench_core.proofs.ReplayLemmas.{read_elsewhere, read_lawful, facts_agree, solve_replayed}
use Rattle.bench_core.proofs.replaying.replay_solve.Goals as goal

pub returns-then-ne-clause-refused : goal.returns-then-ne-clause-refused
returns-then-ne-clause-refused g c =
    read_elsewhere (g.O.Oracle.piece_limit c.args.oracle.now) c.args.node c.in-Some.n c.args.grown.now.forest c.tree-tree.result.now.forest c.args.position c.position.result c.args.shown
    c.tree-tree.ensures.forest c.in-Some.ensures.value c.position.ensures c.if-ne.ensures

pub told_by_all-facts-requires : goal.told_by_all-facts-requires
told_by_all-facts-requires g c =
    let p = c.args.position in
    let k = g.O.Oracle.piece_limit c.args.oracle.now in
    let is : c.as_slice.result.now ≡ c.args.shown = c.as_slice.ensures ∙ c.in_ok-proofs.ensures.ok.0 in
    (p, subst (All (λ (d : Certificate). d.position ≡ p)) (sym is) (shelved_about k p c.args.shown c.in_ok-proofs.ensures.ok.1))

pub solve-requires-clause-agree : goal.solve-requires-clause-agree
solve-requires-clause-agree g c =
    let k = g.O.Oracle.piece_limit c.args.oracle.now in
    let f = c.args.grown.now.forest in
    let told : known c.told_by_all-facts.result ≡ facts_shown c.args.shown = c.told_by_all-facts.ensures.told ∙ ap facts_shown (c.as_slice.ensures ∙ c.in_ok-proofs.ensures.ok.0) in
    let lawful = read_lawful k c.args.node c.in-Some.n f c.tree-tree.result.now.forest c.args.position c.position.result c.args.shown
    c.tree-tree.ensures.forest c.in-Some.ensures.value c.position.ensures (known c.facts-known.result) (known c.told_by_all-facts.result) (c.in-Some.ensures.there.0 refl) c.if-ne.ensures c.facts-known.ensures
    c.in_ok-proofs.ensures.ok.1 told (sym c.includes.ensures ∙ c.if-includes.false) in
    let agree = facts_agree k c.args.node f c.args.position c.args.shown (batches_shown c.args.grown.now.records) (known c.told_by_all-facts.result) lawful c.requires.sound c.requires.certified told in
    subst (λ (h : Forest). IfSome (node_at c.in-Some.n h) (λ x. IsConsistent (joined x.own.facts (known c.told_by_all-facts.result)))) (sym c.reserve.ensures.forest)
    (subst (λ m. IfSome (node_at m f) (λ x. IsConsistent (joined x.own.facts (known c.told_by_all-facts.result)))) (sym c.in-Some.ensures.value) agree)

pub returns-clause-ok : goal.returns-clause-ok
returns-clause-ok g c =
    let k = g.O.Oracle.piece_limit c.args.oracle.now in
    let f = c.args.grown.now.forest in
    let facts = known c.told_by_all-facts.result in
    let shown = c.args.shown in
    let told : facts ≡ facts_shown shown = c.told_by_all-facts.ensures.told ∙ ap facts_shown (c.as_slice.ensures ∙ c.in_ok-proofs.ensures.ok.0) in
    let lawful = read_lawful k c.args.node c.in-Some.n f c.tree-tree.result.now.forest c.args.position c.position.result shown
    c.tree-tree.ensures.forest c.in-Some.ensures.value c.position.ensures (known c.facts-known.result) facts (c.in-Some.ensures.there.0 refl) c.if-ne.ensures c.facts-known.ensures
    c.in_ok-proofs.ensures.ok.1 told (sym c.includes.ensures ∙ c.if-includes.false) in
    let kept : c.in_ok-shown.shown ≡ shown = c.in_ok-shown.ensures ∙ c.in_ok-proofs.ensures.ok.0 in
    solve_replayed c.args.grown.now c.reserve.new.self c.solve.new.self c.reserve.ensures.forest c.reserve.ensures.records k c.args.node c.args.position shown facts lawful told
    (c.solve.ensures.forest ∙ ap (λ n. with_facts n facts c.reserve.new.self.forest) c.in-Some.ensures.value)
    (c.solve.ensures.records ∙ (λ i. c.reserve.new.self.records ++ records.Solve (c.in-Some.ensures.value i) c.args.position (kept i) ∷ []))
