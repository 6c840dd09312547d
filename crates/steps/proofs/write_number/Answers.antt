-- Writes some words and a number behind them, and gives the count of their bytes.
use Rattle.std.proofs.Common.{◌≡◌, ◌-◌, ◌≤◌, List, ℕ, length, take, drop, length-append, length-take, length-drop, arith, ◌∙◌}
use Rattle.slices.proofs.OverLaws.{wrote_count, wrote, part-written}
use Rattle.slices.specs.Joins.{Writes}
use Rattle.steps.specs.Steps.{decimal_in, most_digits}
use Rattle.steps.proofs.Decimals.{digits-are}
use Rattle.steps.proofs.LineBytes.{decimal-short}
use Rattle.steps.proofs.write_number.Goals as goal

pub returns : goal.returns
returns c =
    let words = c.args.words.now in
    let digits = decimal_in most_digits c.args.n in
    let b = c.write_bytes-at in
    let w = c.write_bytes in
    let behind : List ℕ = take (length b.new.out - b.result) (drop b.result b.new.out) in
    let room : length words ≤ length c.args.out.now = omega (arith, c.requires) in
    let n = wrote_count words c.args.out.now _ _ b.ensures room in
    let e : c.as_bytes.result.now ≡ digits = c.as_bytes.ensures.value ∙ c.format.ensures.text ∙ digits-are c.args.n c.ranges.n.fits in
    let writes : Writes digits behind w.new.out w.result = rw e at w.ensures in
    let short : length digits ≤ most_digits = decimal-short most_digits c.args.n in
    let left : length digits ≤ length behind = omega (arith, short, c.requires, n, b.auto.out, length-take (length b.new.out - b.result) (drop b.result b.new.out), length-drop b.result b.new.out) in
    let k = wrote_count digits behind _ _ writes left in
    (omega (arith, n, k, length-append words digits), omega (arith, n, k, short), part-written words digits _ (wrote words c.args.out.now _ _ b.ensures room) n (wrote digits behind _ _ writes left))
