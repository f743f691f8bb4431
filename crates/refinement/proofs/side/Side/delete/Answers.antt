use Rattle.refinement.proofs.side.Side.delete.Goals as goal

pub returns : goal.returns
returns c =
    record {
      rows = rw (c.intersection.ensures, c.complement.ensures);
      other = c.unrelate.ensures;
      again = rw c.image-others.ensures at c.mark.ensures;
      back = rw c.image-others.ensures at c.mark-2.ensures;
      more = c.union-self.ensures;
      more_back = rw (c.union-other.ensures, c.image-others.ensures);
    }
