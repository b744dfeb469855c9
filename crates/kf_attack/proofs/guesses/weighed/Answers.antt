use Rattle.std.proofs.Common.{rules, arith, ◌≡◌, ◌+◌, List, ◌++◌, ◌∷◌, [], refl, sym, subst, take, get_or}
use Rattle.std.specs.List.{AllZip}
use Rattle.kf_column.specs.declared.entry.Entry.{Entry}
use Rattle.kf_hyper.proofs.Reading.{entry_within}
use Rattle.kf_attack.specs.declared.attack.WeighedValue.{WeighedValue}
use Rattle.kf_attack.specs.Views.{ShowsValue}
use Rattle.kf_attack.proofs.Zips.{zip_next}
use Rattle.kf_attack.proofs.guesses.weighed.Goals as goal

pub share-chance-requires-clause-within : goal.share-chance-requires-clause-within
share-chance-requires-clause-within c =
    let none : Entry = record { value = 0; weight = 0 } in
    omega (arith, entry_within c.args.entries.now c.loop-entry.entry-index none c.loop-entry-test.true, c.requires.part)

pub loop-entry-preserved : goal.loop-entry-preserved
loop-entry-preserved c =
    let none : Entry = record { value = 0; weight = 0 } in
    let entries = c.args.entries.now in
    let i = c.loop-entry.entry-index in
    let e : Entry = get_or entries i none in
    let v : WeighedValue = record { value = e.value; chance = c.share-chance.result } in
    let shows : ShowsValue c.args.whole e v = record { value = refl; chance = record { num = c.share-chance.ensures.num; den = c.share-chance.ensures.den } } in
    let grown : c.push.new.self.items ≡ c.loop-entry.values.items ++ v ∷ [] = search rules in
    subst (λ (l : List WeighedValue). AllZip (ShowsValue c.args.whole) (take (i + 1) entries) l) (sym grown)
    (zip_next (ShowsValue c.args.whole) entries c.loop-entry.values.items i none v c.loop-entry-test.true c.loop-entry.invariant shows)
