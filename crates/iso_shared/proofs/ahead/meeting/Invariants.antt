abbrev pub ghosts-meeting_in : Rattle.iso_shared.proofs.ahead.meeting.Given.ghosts-meeting_in
ghosts-meeting_in a = record { name = a.blank.name; parts = a.blank.parts }
