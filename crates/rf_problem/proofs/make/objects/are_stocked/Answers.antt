use Rattle.rf_problem.specs.Valid.{new_numbers}
use Rattle.rf_problem.proofs.StockLemmas.{stocked}
use Rattle.rf_problem.proofs.make.objects.are_stocked.Goals as goal

pub returns : goal.returns
returns c =
    let same = stocked c.args.objects.now (new_numbers 0 c.args.classes.now) c.count_named.result c.count_named.ensures.count in
    (λ t. same.0 (c.are_stock.ensures.0 t), λ h. c.are_stock.ensures.1 (same.1 h))
