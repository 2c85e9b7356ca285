-- `job::order::Seen::advance`: the closed bit fits, since the word has passed its test.
use Rattle.std.proofs.Common.{◌<◌, ◌*◌, ◌%◌, ◌≡◌, ◌∙◌, arith}
use Rattle.job.specs.Kinds.{number_of_kind}
use Rattle.job.specs.Order.{advance}
use Rattle.job.proofs.Orders.{kind_back, passed, subpath_one}
use Rattle.job.proofs.order.Seen.advance.Goals as goal

pub returns-in-Subpath : goal.returns-in-Subpath
unfolding advance
returns-in-Subpath c =
    let w = c.args.word in
    let k = number_of_kind w.kind in
    let one = kind_back w.kind ∙ c.in-Subpath.is in
    let h : w.payload < 2 = (subpath_one c.args.self.now k w.payload (passed c.args.self.now k w.payload c.requires.passes) one).0 in
    let fits : w.payload * 2147483648 % 4294967296 ≡ w.payload * 2147483648 = omega arith in
    rw (fits, c.in-Subpath.is)
