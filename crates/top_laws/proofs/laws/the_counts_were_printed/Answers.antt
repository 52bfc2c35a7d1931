use Rattle.top_laws.proofs.Counted.{counts_printed}

pub returns : Rattle.top_laws.proofs.laws.the_counts_were_printed.Goals.returns
returns g c seed count name old new input_old input_new output_old output_new met few =
    counts_printed g.I.Disk.state name old new input_old input_new output_old output_new seed count met
    (c.drawn_scripts_are_good.ensures.plain seed count few)
    (c.rounds_conflict_where_places_meet.ensures.conflicts seed count few)
    (c.commits_are_twice_the_rounds_less_the_conflicts.ensures seed count few)
    c.shown_bytes_are_not_counted.ensures.commits c.shown_bytes_are_not_counted.ensures.conflicts
