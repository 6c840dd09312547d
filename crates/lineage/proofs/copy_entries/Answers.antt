-- `lineage::copy_entries` meets its contract: the entries are pushed one after the other.
use Rattle.std.proofs.Common.{◌≡◌, ap, ◌∙◌, rules}
use Rattle.std.specs.List.{fold}
use Rattle.std.proofs.lemmas.Iterator.{YieldsList-from_slice}
use Rattle.std.proofs.lemmas.Iterator.Consumers.{fold_from_yields_List}
use Rattle.render.specs.declared.render.Entries.{Entries}
use Rattle.render.specs.Entries.{pushed}
use Rattle.lineage.proofs.CopyLaws.{copies}
use Rattle.lineage.proofs.copy_entries.Goals as goal

pub returns : goal.returns
returns c =
    let list = c.args.list.now in
    let e : c.fold.result ≡ fold pushed c.none.result list =
    fold_from_yields_List _ pushed _ _ c.fold.ensures.ran (YieldsList-from_slice list (cc)) (λ a x b q k. search rules) in
    copies list c.fold.result (e ∙ ap (λ (n : Entries). fold pushed n list) c.none.ensures)
