mod TallyLemmas
mod PlanLemmas
mod FollowLemmas
mod GoLemmas
mod MadeLemmas
mod StopLemmas
