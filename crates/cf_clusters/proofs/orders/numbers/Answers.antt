use Rattle.std.proofs.Common.{◌≡◌, length, ap, ◌∙◌, arith}
use Rattle.cf_clusters.specs.Layout.{descending}
use Rattle.cf_clusters.proofs.orders.numbers.Goals as goal

pub returns : goal.returns
returns c =
    let long : length c.resize.new.self.items ≡ c.args.count = omega (arith, c.in_ok-resize.ensures.len, c.resize.new.self.ok) in
    c.put_numbers_vec.ensures ∙ ap descending long
