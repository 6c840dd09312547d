-- Whether a message may hold each of the bytes.
use mathlib.Core.Path.{◌≡◌, ◌∙◌}
use mathlib.Core.Bool.{Bool, true, ◌&&◌}
use Prim.Native.Nat.{ℕ}
use Rattle.std.specs.List.{fold}
use native.Mathlib.Omega.{arith}
use Rattle.std.proofs.lemmas.Grind.{common_steps}
use Rattle.message.specs.Message.{is_writable}
use Rattle.message.proofs.MessageLaws.{all-folded}
use Rattle.message.proofs.are_writable.Goals as goal

pub returns : goal.returns
returns c =
    let m = c.args.message.now in
    let e : c.fold.result ≡ fold (λ (x : Bool) (b : ℕ). x && is_writable b) true m = grind (arith, common_steps) in
    e ∙ all-folded is_writable true m
