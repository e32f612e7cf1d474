use Rattle.shared_tests.proofs.peeking.two_threads_find_every_key.Goals as goal

pub find_by_two-requires-after_bounds : goal.find_by_two-requires-after_bounds
find_by_two-requires-after_bounds g c κs = c.in-Some.ensures
