-- `map_rows::split::share` meets its contract.
use Rattle.map_rows.proofs.Digits.{share-up-some, share-up-none}
use Rattle.map_rows.proofs.split.share.Goals as goal

pub returns-then-c-gt0 : goal.returns-then-c-gt0
returns-then-c-gt0 c =
    let i = c.requires in
    let e = c.cut_product-c.ensures in
    rw c.in-Up.is (share-up-some _ _ _ _ _ i.some i.within e.0.whole_is e.0.rest-is c.if-c-gt0.true)

pub returns-else-c-gt0 : goal.returns-else-c-gt0
returns-else-c-gt0 c =
    let i = c.requires in
    let e = c.cut_product-c.ensures in
    rw c.in-Up.is (share-up-none _ _ _ _ _ i.some i.within e.0.whole_is e.0.rest-is c.if-c-gt0.false)
