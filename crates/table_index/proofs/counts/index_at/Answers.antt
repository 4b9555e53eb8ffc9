use Rattle.std.proofs.Common.{ap, ◌*◌, ◌<◌, arith}
use Rattle.table_index.proofs.OrderLemmas.{index-fits}
use Rattle.table_index.proofs.counts.index_at.Goals as goal
use Rattle.table_index.proofs.counts.index_at.Goals.{in-Black, in-White}

pub overflow_mul-result : goal.overflow_mul-result
overflow_mul-result c =
    let fits = index-fits c.args.pieces c.args.choice c.args.kinds c.requires.pieces c.requires.choice c.requires.kinds in
    let product = ap (λ w. c.args.choice * w) c.kinds_of.ensures in
    omega (arith, fits.0, fits.1, product)

pub overflow_add-result : goal.overflow_add-result
overflow_add-result c =
    let fits = index-fits c.args.pieces c.args.choice c.args.kinds c.requires.pieces c.requires.choice c.requires.kinds in
    let product = ap (λ w. c.args.choice * w) c.kinds_of.ensures in
    omega (arith, fits.0, fits.1, product)

pub overflow_mul-result-2 : goal.overflow_mul-result-2
overflow_mul-result-2 c =
    let fits = index-fits c.args.pieces c.args.choice c.args.kinds c.requires.pieces c.requires.choice c.requires.kinds in
    let product = ap (λ w. c.args.choice * w) c.kinds_of.ensures in
    omega (arith, fits.0, fits.1, product)

pub overflow_add-result-2 : goal.overflow_add-result-2
overflow_add-result-2 c =
    let fits = index-fits c.args.pieces c.args.choice c.args.kinds c.requires.pieces c.requires.choice c.requires.kinds in
    let product = ap (λ w. c.args.choice * w) c.kinds_of.ensures in
    omega (arith, fits.0, fits.1, product, c.first_index.ensures)

pub overflow_add-result-3 : goal.overflow_add-result-3
overflow_add-result-3 c =
    let fits = index-fits c.args.pieces c.args.choice c.args.kinds c.requires.pieces c.requires.choice c.requires.kinds in
    let product = ap (λ w. c.args.choice * w) c.kinds_of.ensures in
    let side : c.match-to_move.side < 2 = elim c.match-to_move.branch [ in-Black w ↦ omega arith | in-White w ↦ omega arith ] in
    omega (arith, fits.0, fits.1, product, c.first_index.ensures, side)

pub returns-clause-range : goal.returns-clause-range
returns-clause-range c =
    let fits = index-fits c.args.pieces c.args.choice c.args.kinds c.requires.pieces c.requires.choice c.requires.kinds in
    let product = ap (λ w. c.args.choice * w) c.kinds_of.ensures in
    let side : c.match-to_move.side < 2 = elim c.match-to_move.branch [ in-Black w ↦ omega arith | in-White w ↦ omega arith ] in
    omega (arith, fits.0, fits.1, product, c.first_index.ensures, side)
