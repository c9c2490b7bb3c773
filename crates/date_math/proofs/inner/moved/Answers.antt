-- Year and month are summed and raised to their biases; their balance is given back, the year clamped, and regulated.
use Rattle.std.proofs.Common.{rules, arith, ◌≡◌, ◌<◌, ◌∙◌, sym, ap, w32, to_z, of_z}
use mir.Val.{SFits}
use Rattle.iso_date.specs.Paper.{regulate_date}
use Rattle.iso_date.specs.declared.IsoDate.{IsoDate}
use Rattle.whole.proofs.Edges.{raise_room, raised_within}
use Rattle.date_math.proofs.Steps.{year_small, month_small, year_back, month_back, moved_is}
use Rattle.date_math.proofs.inner.moved.Goals as goal

pub raise-u-requires : goal.raise-u-requires
raise-u-requires c =
    let d = c.args.date in
    let f : SFits w32 d.year = search rules in
    let year : to_z w32 (of_z w32 d.year) ≡ d.year = search rules in
    rw (year_back _ _ _ (c.from.ensures ∙ year) f c.ranges.years c.requires.0)
    (raise_room _ _ (omega (arith, year_small c.args.date.year c.args.years f c.requires.0)) (omega arith))

pub raise-m-requires : goal.raise-m-requires
raise-m-requires c =
    let l : c.args.date.month < 256 = search rules in
    rw (month_back _ _ _ c.from-2.ensures l c.ranges.months c.requires.1)
    (raise_room _ _ (omega (arith, month_small c.args.date.month c.args.months l c.requires.1)) (omega arith))

pub balance_up-b-requires : goal.balance_up-b-requires
balance_up-b-requires c =
    let d = c.args.date in
    let f : SFits w32 d.year = search rules in
    let l : d.month < 256 = search rules in
    let year : to_z w32 (of_z w32 d.year) ≡ d.year = search rules in
    let y = sym (year_back _ _ _ (c.from.ensures ∙ year) f c.ranges.years c.requires.0) ∙ c.raise-u.ensures.0 in
    let m = sym (month_back _ _ _ c.from-2.ensures l c.ranges.months c.requires.1) ∙ c.raise-m.ensures.0 in
    omega (
      arith,
      raised_within _ _ _ _ y (year_small c.args.date.year c.args.years f c.requires.0) (omega arith),
      raised_within _ _ _ _ m (month_small c.args.date.month c.args.months l c.requires.1) (omega arith),
    )

pub returns : goal.returns
returns c =
    let d = c.args.date in
    let f : SFits w32 d.year = search rules in
    let l : d.month < 256 = search rules in
    let year : to_z w32 (of_z w32 d.year) ≡ d.year = search rules in
    let y = sym (year_back _ _ _ (c.from.ensures ∙ year) f c.ranges.years c.requires.0) ∙ c.raise-u.ensures.0 in
    let m = sym (month_back _ _ _ c.from-2.ensures l c.ranges.months c.requires.1) ∙ c.raise-m.ensures.0 in
    let down : to_z w32 (of_z w32 c.year_down.result) ≡ c.year_down.result = search rules in
    c.regulate.ensures ∙
    ap (λ (t : IsoDate). regulate_date t c.args.overflow)
    (moved_is d.year c.args.years c.args.months _ d.month d.day _ _ _ _ y m c.balance_up-b.ensures (down ∙ c.year_down.ensures))
