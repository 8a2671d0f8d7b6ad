use Rattle.std.proofs.Common.{◌<◌, ◌≤◌, ◌^◌, take, rules, arith}
use Rattle.std.proofs.lemmas.List.Sums.{sum_by-take-le}
use Rattle.regions.specs.Rules.{total}
use Rattle.arena.proofs.arena.Arena.begin.Goals as goal

pub sum-requires-clause-fits : goal.sum-requires-clause-fits
sum-requires-clause-fits c =
    let ls = c.args.self.now.lens.items in
    let h : total (take c.args.n ls) ≤ total ls = sum_by-take-le (λ n. n) ls c.args.n in
    let h' : total (take c.args.n ls) < 2 ^ 64 = omega (arith, c.args.self.now.fits) in
    search rules
