use Rattle.group_commit.proofs.Words.{length}

abbrev pub decreases-deal_replies : Rattle.group_commit.proofs.each.+deal_replies.Given.decreases-deal_replies
decreases-deal_replies g l = length l.replies.now
