use Rattle.demo_core.proofs.items.+directory_path.Given as goal

abbrev pub decreases-directory_path : goal.decreases-directory_path
decreases-directory_path l = l.count
