-- The line, in parts: the words, the digits and the line's end.
use Rattle.std.proofs.Common.{◌≡◌, ℕ, Bool, false, List, [], ◌∷◌, ◌++◌, decimal, is_ok, subst, ◌∙◌}
use Rattle.std.specs.declared.option.Option.{Option}
use Rattle.std.proofs.lemmas.Result.{err_from_is_err_and}
use Rattle.programs.specs.Streams.{Adds}
use Rattle.programs.proofs.StreamLaws.{adds-first, adds-next}
use Rattle.programs.proofs.say.Goals as goal

-- the digits that were written are the number's
of-number : (before after : Option (List ℕ)) (digits : List ℕ) (number : ℕ) (is_whole : Bool) → digits ≡ decimal number
    → Adds before after (digits ++ (10 ∷ [])) is_whole → Adds before after (decimal number ++ (10 ∷ [])) is_whole
of-number before after digits number is_whole e h = subst (λ (l : List ℕ). Adds before after (l ++ (10 ∷ [])) is_whole) e h

pub returns-in_err-write_whole : goal.returns-in_err-write_whole
returns-in_err-write_whole g c =
    let p = err_from_is_err_and c.from_residual.result c.from_residual.ensures.1 in
    rw p.1 (adds-first _ _ c.args.words.now (decimal c.args.number ++ (10 ∷ [])) c.in_err-write_whole.ensures)

pub returns-in_err-write_whole-2 : goal.returns-in_err-write_whole-2
returns-in_err-write_whole-2 g c =
    let first = g.E.Write.contents c.write_whole.new.output in
    let last = g.E.Write.contents c.write_whole-2.new.output in
    let digits = c.as_bytes.result.now in
    let p = err_from_is_err_and c.from_residual-in_err-write_whole-2.result c.from_residual-in_err-write_whole-2.ensures.1 in
    let part : Adds first last (digits ++ (10 ∷ [])) false = adds-first first last digits (10 ∷ []) c.in_err-write_whole-2.ensures in
    rw p.1
    (adds-next _ first last c.args.words.now (decimal c.args.number ++ (10 ∷ [])) false c.in_ok-write_whole.ensures
    (of-number first last digits c.args.number false (c.as_bytes.ensures.value ∙ c.format.ensures.text) part))

pub returns : goal.returns
returns g c =
    let first = g.E.Write.contents c.write_whole.new.output in
    let second = g.E.Write.contents c.write_whole-2.new.output in
    let last = g.E.Write.contents c.write_whole-3.new.output in
    let digits = c.as_bytes.result.now in
    let is_whole = is_ok c.write_whole-3.result in
    let rest : Adds first last (digits ++ (10 ∷ [])) is_whole = adds-next first second last digits (10 ∷ []) is_whole c.in_ok-write_whole-2.ensures c.write_whole-3.ensures in
    adds-next _ first last c.args.words.now (decimal c.args.number ++ (10 ∷ [])) is_whole c.in_ok-write_whole.ensures
    (of-number first last digits c.args.number is_whole (c.as_bytes.ensures.value ∙ c.format.ensures.text) rest)
