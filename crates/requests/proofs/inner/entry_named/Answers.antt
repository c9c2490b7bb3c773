-- `find` stops at the first entry that has the name.
use Rattle.std.proofs.Common.{◌≡◌, ap, map, rules, tests}
use Rattle.std.specs.Str.{bytes_eq}
use Rattle.std.proofs.lemmas.Iterator.{YieldsList-from_slice}
use Rattle.std.proofs.lemmas.Iterator.Search.{find_from_yields_List}
use Rattle.parameters.specs.Letters.{bounds_of, letters_kinds}
use Rattle.calls.specs.Table.{calls}
use Rattle.requests.proofs.Laws.{seen, wanted, named}
use Rattle.requests.proofs.inner.entry_named.Goals as goal

pub returns : goal.returns
unfolding bounds_of letters_kinds wanted
returns c =
    let s : map seen c.iter.result.rest.now ≡ wanted 0 calls = ap (map seen) c.iter.ensures.rest in
    named c.args.name.now c.iter.result.rest.now s c.find.result
    (find_from_yields_List (λ entry. bytes_eq entry.name.now c.args.name.now) _ _ c.find.result c.find.ensures.ran (YieldsList-from_slice c.iter.result.rest.now cc)
    (λ x b q k. search (rules, tests)))
