use Rattle.std.proofs.Common.{ℤ, ap, ◌∙◌, subst}
use Rattle.bound.specs.Points.{Bounds}
use Rattle.bound.specs.Checks.{checked}
use Rattle.market.specs.Market.{Market}
use Rattle.market.specs.View.{closed_of}
use Rattle.market.proofs.Books.{closed_lawful}
use Rattle.auction.specs.Acceptance.{acceptance}
use Rattle.auction.specs.Theorems.{BoundsWelfare}
use Rattle.auction.specs.Views.{accepted_market}
use Rattle.auction.proofs.Gaps.{welfare_below, made_more}
use Rattle.auction.proofs.bounds.welfare_bound.Goals as goal

pub returns : goal.returns
returns c =
    let m = closed_of c.args.market.now in
    record {
      exact = c.check.ensures.exact ∙ ap (λ (n : Market). checked (acceptance n) c.args.file.now) c.over.ensures;
      bounds = made_more (λ (b : ℤ). Bounds (acceptance (accepted_market c.over.result)) b) (λ (b : ℤ). BoundsWelfare m b)
          (λ b h. welfare_below m (closed_lawful c.args.market.now) b (subst (λ (n : Market). Bounds (acceptance n) b) c.over.ensures h))
          c.check.result c.check.ensures.sound;
    }
