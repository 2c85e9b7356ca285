-- Before place i the digits after it are stored.
use Rattle.std.proofs.Common.{◌≡◌, ◌+◌, ◌<◌, ◌++◌, drop}
use lib.Seq.{sets}
use Rattle.decimal.specs.Text.{whole_text}
use Rattle.decimal.proofs.text.Text.put_whole.Given as goal

-- the digits from place i on are stored, and those before it are of what is left
abbrev pub invariant-loop-i : goal.invariant-loop-i
invariant-loop-i l = record {
  same : l.self.out.ghost_name ≡ l.fn.self.out.ghost_name;
  at : l.self.at ≡ l.fn.self.at;
  list : l.self.out.now ≡ sets l.fn.self.out.now (l.at + l.i) (drop l.i (whole_text l.n));
  left : 0 < l.i → whole_text l.left ++ drop l.i (whole_text l.n) ≡ whole_text l.n;
}
