use Rattle.partitions.proofs.all_classes.Goals as goal

pub marked_classes-requires : goal.marked_classes-requires
marked_classes-requires c =
    let (k, d) = c.args.t.described in
    ((k, record { describes = d; marked = c.all_marks-marks.ensures k d }), c.requires)

pub returns : goal.returns
returns c = λ k d. c.marked_classes.ensures k (record { describes = d; marked = c.all_marks-marks.ensures k d })
