mod Augmented
