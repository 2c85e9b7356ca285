-- A subpath's end, by whether the way back is straight.
use Rattle.std.proofs.Common.{◌<◌, ◌^◌, ◌≡◌, [], ◌∷◌, length, sym, ap, ◌∙◌, rules}
use Rattle.cubic.specs.Sample.{straight}
use Rattle.path.specs.Flat.{anchor_at}
use Rattle.svg_grammar.specs.Grammar.{close}
use Rattle.svg.specs.Path.{is_straight}
use Rattle.svg.proofs.Glues.{glued}
use Rattle.svg.proofs.Paths.{closing_single, closing_straight, closing_bent}
use Rattle.svg.proofs.outline.put_closing.Goals as goal
use Rattle.svg.proofs.outline.put_closing.Goals.{then-m-ne0+then-not-straight, else-m-ne0, else-m-ne0-via-then-m-ne0+else-not-straight, else-m-ne0-via-else-m-ne0}

pub returns-clause-text : goal.returns-clause-text
unfolding is_straight
returns-clause-text c =
    let k = c.args.k in
    let m = c.args.m in
    let f = anchor_at c.args.anchors.now in
    let asked : is_straight c.anchor_at-last.result c.anchor_at-first.result ≡ c.straight-straight.result = ap straight (sym c.cubic.ensures) ∙ sym c.straight-straight.ensures in
    let back = rw (c.anchor_at-last.ensures, c.anchor_at-first.ensures) at asked in
    elim c.if-m-ne0.branch [
      | then-m-ne0+then-not-straight w ↦
          let h : length c.args.text.now.out.now < 2 ^ 64 = search rules in
          let curve = rw (c.anchor_at-last.ensures, c.anchor_at-first.ensures) at w.put_bent.ensures.text in
          rw (closing_bent f k m w.if-m-ne0.true (back ∙ w.if-not-straight.true)) (glued (_ ∷ []) (close ∷ []) h curve (rw w.text-is at c.put_close.ensures.text))
      | else-m-ne0 w ↦
          let put = rw w.text-is at c.put_close.ensures.text in
          elim w.else-m-ne0.branch [
            | else-m-ne0-via-then-m-ne0+else-not-straight v ↦ rw (closing_straight f k m (back ∙ v.if-not-straight.false)) put
            | else-m-ne0-via-else-m-ne0 v ↦ rw (closing_single f k m v.if-m-ne0.false) put
          ]
    ]
