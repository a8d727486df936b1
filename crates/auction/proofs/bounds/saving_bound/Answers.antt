use Rattle.std.proofs.Common.{List, ℤ, ◌∙◌, subst, ap₂}
use Rattle.bound.specs.Points.{Bounds}
use Rattle.bound.specs.Checks.{checked}
use Rattle.market.specs.Market.{Market}
use Rattle.market.specs.View.{closed_of}
use Rattle.market.proofs.Books.{closed_lawful}
use Rattle.rules.specs.Scratch.{parts_in}
use Rattle.auction.specs.Pricing.{pricing}
use Rattle.auction.specs.Theorems.{BoundsSaving}
use Rattle.auction.specs.Views.{priced_market, held_parts}
use Rattle.auction.proofs.Gaps.{costs_above, made_more}
use Rattle.auction.proofs.bounds.saving_bound.Goals as goal

pub returns : goal.returns
returns c =
    let m = closed_of c.args.market.now in
    let X = parts_in c.args.parts.now in
    record {
      exact = c.check.ensures.exact ∙ ap₂ (λ (n : Market) (s : List ℤ). checked (pricing n (parts_in s)) c.args.file.now) c.over.ensures.market c.over.ensures.parts;
      bounds = made_more (λ (b : ℤ). Bounds (pricing (priced_market c.over.result) (held_parts c.over.result)) b) (λ (b : ℤ). BoundsSaving m X b)
          (λ b h. costs_above m (closed_lawful c.args.market.now) X b
          (subst (λ (s : List ℤ). Bounds (pricing m (parts_in s)) b) c.over.ensures.parts (subst (λ (n : Market). Bounds (pricing n (held_parts c.over.result)) b) c.over.ensures.market h)))
          c.check.result c.check.ensures.sound;
    }
